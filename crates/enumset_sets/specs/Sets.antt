-- The terms of clauses about sets, and the rulesets for code over sets, in one module.
--     operations on sets, their members and numbers;  the valid bits;  unions and intersections of many sets
--     what an element type states, with its laws
--     set_laws      the ruleset for the root of a crate
--     decided, ends, counts, ..      rulesets for one function:  the file each comes from says what it has
--     the laws of sets, which docs/LAWS.md lists by subject
--     same_set, same_in, same_both, members      for proofs by hand:  sets with the same members are equal, and so are
--         values made from such sets;  a ruleset that compares members
--     place_is, place_is_valid      for proofs by hand:  the bit of a variant that is named, and that it is valid
-- `ghost use Rattle.enumset_sets.specs.Sets as set;`
pub use Rattle.enumset_repr.specs.BitSet.{BitSet, is_in, only}
unfoldable pub use Rattle.enumset_repr.specs.BitSet.{contains, ascending, len, empty, insert, remove, retain, from_list, insert_each, union, intersection, difference, symmetric_difference, is_subset, is_empty, is_disjoint, is_same, below, low}
unfoldable pub use Rattle.enumset_repr.specs.Ends.{least, greatest}
pub use Rattle.enumset_repr.specs.Laws.Algebra.{algebra}
pub use Rattle.enumset_repr.specs.Rules.Counts.{counts, counts_of_parts}
pub use Rattle.enumset_repr.specs.Laws.Counting.{counting}
pub use Rattle.enumset_repr.specs.Rules.Ends.{ends, found}
pub use Rattle.enumset_repr.specs.Laws.Firsts.{firsts, written_out}
pub use Rattle.enumset_repr.specs.Rules.Members.{decided}
pub use Rattle.enumset_repr.specs.Laws.Members.{same_set, same_in, same_both, members}
pub use Rattle.enumset_repr.specs.Rules.Numbers.{masks, ordering}
pub use Rattle.enumset_repr.specs.Laws.Sets.{in_parts}
unfoldable pub use Rattle.enumset_repr.specs.Image.{image}
pub use Rattle.enumset_repr.specs.Number.{is_distinct}
unfoldable pub use Rattle.enumset_repr.specs.Number.{number, bits}
unfoldable pub use Rattle.enumset_repr.specs.Order.{compare}
pub use Rattle.enumset_repr.specs.Sum.{sum_over}
unfoldable pub use Rattle.enumset_repr.specs.Words.{words, bits_of}
pub use Rattle.enumset_sets.specs.Elements.{Elements, in_place, with_bits, one_past_greatest}
unfoldable pub use Rattle.enumset_sets.specs.Elements.{valid_bits, listed_bit, place}
pub use Rattle.enumset_sets.specs.Folds.{intersection_all}
unfoldable pub use Rattle.enumset_sets.specs.Folds.{union_all}
pub use Rattle.enumset_sets.specs.Laws.Elements.{lawful_in_integer, lawful_in_place, lawful_in_words, place_is, place_is_valid}
pub use Rattle.enumset_sets.specs.Laws.ManySets.{folds}
pub use Rattle.enumset_sets.specs.Rules.ManySets.{folds_once}
pub use Rattle.enumset_sets.specs.Rules.SetLaws.{set_laws}
-- the laws
pub use Rattle.enumset_repr.specs.Laws.Algebra.{union_comm, union_assoc, union_self, union_empty, empty_union, union_intersection, union_over_intersection, intersection_comm, intersection_assoc, intersection_self, intersection_empty, empty_intersection, intersection_union, intersection_over_union, difference_self, difference_empty, empty_difference, difference_union, difference_intersection, union_difference, difference_then_union, difference_twice, symmetric_difference_comm, symmetric_difference_assoc, symmetric_difference_self, symmetric_difference_empty, symmetric_difference_twice, intersection_over_symmetric_difference, insert_twice, insert_comm, insert_present, remove_twice, remove_comm, remove_absent, remove_insert, insert_remove, insert_remove_comm, insert_removed, remove_inserted, contains_inserted, contains_removed, insert_union, union_insert, toggled, difference_inserted, insert_inside, complement_twice, complement_union, complement_intersection, complement_apart, is_disjoint_empty, is_disjoint_difference, is_subset_trans, union_left, union_right, intersection_left, intersection_right, difference_left, insert_grows, remove_shrinks, union_within, intersection_within, difference_within, intersection_difference, symmetric_difference_within, difference_none, intersection_apart, difference_apart, from_list_ascending, insert_each_union}
pub use Rattle.enumset_repr.specs.Laws.Ascending.{ascending_is, ascending_empty, len_ascending, len_empty, len_insert, len_remove, len_below, is_empty_iff}
pub use Rattle.enumset_repr.specs.Laws.Counting.{ascending_retain, ascending_intersection, ascending_difference, is_empty_difference, is_empty_intersection, len_retain, len_parts, len_union, len_union_more, len_union_most, len_union_same, len_disjoint_union, len_complement, len_intersection, len_intersection_right, len_difference, len_subset, len_proper, len_apart, len_zero_iff, len_only, len_all_below, len_inserted, len_removed, subset_equality}
pub use Rattle.enumset_repr.specs.Laws.Ends.{least_is, least_facts, least_empty, least_below, ascending_least, greatest_is, greatest_facts, greatest_empty, greatest_below, ascending_greatest}
pub use Rattle.enumset_repr.specs.Laws.EndsOfUnions.{least_none_iff, greatest_none_iff, least_insert, least_union, least_subset, greatest_insert, greatest_union, greatest_subset, ascending_union}
pub use Rattle.enumset_repr.specs.Laws.Firsts.{ascending_insert, ascending_empty_iff}
pub use Rattle.enumset_repr.specs.Laws.Images.{contains_image, image_member, is_subset_image, image_empty, image_only, image_insert, image_union, image_mono, image_same, image_itself, image_image, len_image, len_image_injective}
pub use Rattle.enumset_repr.specs.Laws.Induction.{set_induction, set_induction_least, set_induction_greatest, set_induction_subsets}
pub use Rattle.enumset_repr.specs.Laws.Lattice.{is_subset_antisym, is_disjoint_comm, is_subset_iff_union, is_subset_iff_intersection, is_disjoint_iff_difference, is_subset_intersection, is_subset_difference, is_subset_insert, is_disjoint_union, union_mono, intersection_mono, difference_mono, complement_antitone, insert_mono, remove_mono, is_disjoint_mono}
pub use Rattle.enumset_repr.specs.Laws.Members.{contains_empty, contains_insert, contains_remove, contains_retain, contains_ascending, contains_insert_each, contains_from_list, contains_union, contains_intersection, contains_difference, contains_symmetric_difference, contains_below, contains_low, is_subset_itself, is_subset_contains, contains_is_subset, is_disjoint_contains, contains_is_disjoint, is_subset_iff, is_disjoint_iff, is_same_iff, empty_is_subset, union_only, difference_only, union_is_subset, member_below, contains_past}
pub use Rattle.enumset_repr.specs.Laws.Numbers.{bits_number, number_bits, bits_within, number_within}
pub use Rattle.enumset_repr.specs.Laws.Order.{compare_number, compare_itself, compare_same, compare_subset}
pub use Rattle.enumset_repr.specs.Laws.Pigeonhole.{some_one, len_one_iff, member_outside, pigeonhole_below, pigeonhole_within, pigeonhole_image}
pub use Rattle.enumset_repr.specs.Laws.Retain.{retain_retain, retain_all, retain_none, retain_same, retain_empty, retain_insert, retain_union, retain_intersection, retain_difference, retain_is_subset, retain_mono, retain_parts, retain_apart, len_retain_parts, retain_contains, retain_outside}
pub use Rattle.enumset_repr.specs.Laws.Sets.{difference_insert, difference_remove, intersection_insert, intersection_remove, difference_parts, difference_shared, symmetric_parts, difference_over_union, difference_over_intersection, is_subset_union, len_symmetric_difference, complement_of_complement, complement_within, complement_outside, difference_insert_all, difference_remove_all}
pub use Rattle.enumset_repr.specs.Laws.Sums.{fold_insert, fold_union, fold_listed, fold_same, sum_empty, sum_only, sum_insert, sum_remove, sum_listed, sum_disjoint_union, sum_union, sum_parts, sum_subset, sum_same, sum_le, sum_plus, sum_constant, sum_ones, sum_at_most, number_insert, number_remove, number_disjoint_union, number_listed}
pub use Rattle.enumset_sets.specs.Laws.ManySets.{contains_union_all, contains_intersection_all, from_list_same, union_all_same, intersection_all_same, union_all_member, union_all_within, union_all_mono, union_all_is_subset, union_all_is_disjoint}
