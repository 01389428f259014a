use Rattle.std.proofs.Common.{rules, arith, ◌∷◌, [], ◌++◌, ◌-◌, ◌<◌, ◌^◌, sym, ap, ◌∙◌, w64}
use Rattle.std.specs.Int.{leading_zeros}
use Rattle.enumset_repr.specs.BitSet.{ascending}
use Rattle.enumset_repr.specs.Laws.Ascending.{ascending_last}
use Rattle.enumset_repr.specs.Laws.Numbers.{greatest_bits, bits_clear}
use Rattle.enumset_array.proofs.words.take_greatest.Goals as goal

pub returns-clause-bit : goal.returns-clause-bit
returns-clause-bit c =
    let fits : c.args.word.now < 2 ^ 64 = search rules in
    let some : 0 < c.args.word.now = search rules in
    let found = greatest_bits 64 c.args.word.now some fits in
    let small : 63 - leading_zeros w64 c.args.word.now < 64 = omega arith in
    ascending_last _ _ found.1 found.2
    ∙ ap (λ s. ascending s ++ (63 - leading_zeros w64 c.args.word.now) ∷ []) (sym (bits_clear 64 c.args.word.now (63 - leading_zeros w64 c.args.word.now) fits small))
