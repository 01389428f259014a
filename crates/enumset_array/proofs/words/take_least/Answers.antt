use Rattle.std.proofs.Common.{rules, ◌∷◌, ◌<◌, ◌^◌, sym, ap, ◌∙◌, w64}
use Rattle.std.specs.Int.{trailing_zeros}
use Rattle.enumset_repr.specs.BitSet.{ascending}
use Rattle.enumset_repr.specs.Laws.Ascending.{ascending_first}
use Rattle.enumset_repr.specs.Laws.Numbers.{least_bits, bits_clear_least}
use Rattle.enumset_array.proofs.words.take_least.Goals as goal

pub returns-clause-bit : goal.returns-clause-bit
returns-clause-bit c =
    let fits : c.args.word.now < 2 ^ 64 = search rules in
    let some : 0 < c.args.word.now = search rules in
    let found = least_bits 64 c.args.word.now some fits in
    ascending_first _ _ found.0 found.1
    ∙ ap (λ s. trailing_zeros w64 c.args.word.now ∷ ascending s) (sym (bits_clear_least 64 c.args.word.now some fits))
