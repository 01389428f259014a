use Rattle.std.proofs.Common.{option_map, sym, ap, ◌∙◌, inr}
use Rattle.enumset_repr.specs.Words.{bits_of}
use Rattle.enumset.proofs.JsonLaws.{words_back}
use Rattle.enumset.proofs.PlainLists.{is_read, refused}
use Rattle.enumset.proofs.set_json.mixed_texts.mixed_from_words_text.Goals as goal
use Rattle.enumset.specs.Json.{and_then, kept_below, mixed_set_of_words, words_value}
use Rattle.serde_json.specs.Errors.{IsMemory}

pub returns-in-Some : goal.returns-in-Some
returns-in-Some g c =
    let reader = mixed_set_of_words g.T.Repr.EnumSetTypeRepr.WIDTH c.args.past in
    let (ws, is, cut, whole) = c.in-Some.ensures.words in
    let read = is_read reader c.args.text.now (reader (words_value ws)) c.kept_below.result (ap (option_map reader) is)
    (c.kept_below.ensures (bits_of ws) cut whole ∙ ap (λ r. and_then r (λ ns. kept_below g.T.Repr.EnumSetTypeRepr.WIDTH c.args.past (bits_of ns))) (sym (words_back ws))) in
    record { read = inr read; plain = λ _. read }

pub returns-in_err-from_str-in-None-clause-read : goal.returns-in_err-from_str-in-None-clause-read
returns-in_err-from_str-in-None-clause-read g c =
    refused (mixed_set_of_words g.T.Repr.EnumSetTypeRepr.WIDTH c.args.past) c.args.text.now c.from_residual.result (IsMemory c.in_err-from_str-in-None.field-0.0) c.from_residual.ensures.1 c.in_err-from_str-in-None.ensures.err
