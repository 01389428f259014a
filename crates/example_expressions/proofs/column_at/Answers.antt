use Rattle.std.proofs.Common.{◌≡◌, ◌≤◌, ◌+◌, ℕ, ap, sym, ◌∙◌, length, map}
use Rattle.std.proofs.lemmas.Iterator.{YieldsList-from_chars}
use Rattle.std.proofs.lemmas.Iterator.Consumers.{count_from_yields_List}
use Rattle.std.proofs.lemmas.List.{get_or_past, length-map}
use Rattle.std.specs.Str.{chars}
use Rattle.example_expressions.proofs.column_at.Goals as goal

pub returns-in-None : goal.returns-in-None
returns-in-None c =
    let count : c.count.result ≡ length (chars c.args.line.now) = count_from_yields_List c.chars.result _ c.count.ensures.ran (YieldsList-from_chars c.args.line.now c.utf8.line cc) in
    let past : length c.args.tokens.now ≤ c.args.place = c.in-None.ensures.lookup.3 in
    ap (λ n. n + 1) count ∙ sym (get_or_past (map (λ t. t.column) c.args.tokens.now) c.args.place _ (rw length-map past))
