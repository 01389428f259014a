-- The ruleset for code over sets.
--     set_laws      for the root of a crate: equations, inclusions, disjointness, emptiness, sameness and membership of
--         sets, first and last members, counts and sums, tests of the list of the members, unions and intersections of
--         many sets, the order, numbers and masks, bits of variants and their places in a list
-- `#![tactic(auto, using(enumset_sets::specs::Rules::SetLaws::set_laws))]`
-- `Rules/Members.antt` of `enumset_repr` says how `set_laws` proves a goal, and what must not be in it.
use Rattle.enumset_repr.specs.Rules.Counts.{counts}
use Rattle.enumset_repr.specs.Rules.Ends.{ends}
use Rattle.enumset_repr.specs.Rules.Iteration.{listed}
use Rattle.enumset_repr.specs.Rules.Members.{decided_of_named}
use Rattle.enumset_repr.specs.Rules.Numbers.{ordering, masks}
use Rattle.enumset_repr.specs.Laws.Numbers.{bits_number, bits_integer, number_bits, bits_within, number_within}
use Rattle.enumset_sets.specs.Laws.Elements.{bits_of_variants}
use Rattle.enumset_sets.specs.Rules.FixedPoints.{rows}
use Rattle.enumset_sets.specs.Rules.ManySets.{folds_once}
use Rattle.enumset_sets.specs.Rules.ValidBits.{of_valid_bits}

-- what it proves: what `decided` does, and facts of first and last members, counts and sums, tests of the list of the
-- members, unions and intersections of many sets, the order, numbers and masks, and bits of variants and their places
-- in a list
pub ruleset set_laws = (decided_of_named, ends, counts, listed, folds_once, rows, ordering, masks, bits_number, bits_integer, number_bits, bits_within, number_within, bits_of_variants, of_valid_bits)
