-- Laws of slices with a place for each variant of an enum, whose bits are its variants' places.
--     range_below      the numbers of a range from 0 on are those below its end
--     valid_in_place, place_below      the valid bits are the numbers below the number of variants;  the bit of a
--         variant is below this number
--     passed_next, passed_whole      the bits that an iteration over all elements has passed, which are the valid bits
--         that are not left: after one more;  at its end
use Rattle.std.proofs.Common.{◌≡◌, ◌<◌, ◌+◌, ℕ, zero, suc, true, ◌&&◌, nat_le, nat_lt, List, [], ◌∷◌, length, sym, ap, ◌∙◌, arith}
use Rattle.std.proofs.lemmas.Bool.{ltb-true}
use Rattle.std.proofs.lemmas.Bool.Decides.{nat_tests}
use Rattle.std.specs.List.{range_with_len}
use denote.Enum.Declared.{Declared, rowss}
use Rattle.enumset_repr.specs.BitSet.{BitSet, is_in, contains, below, insert, difference, from_list, is_subset}
use Rattle.enumset_repr.specs.Laws.Members.{members, same_set, contains_below, contains_from_list}
use Rattle.enumset_repr.specs.Rules.Members.{decided}
use Rattle.enumset_sets.specs.Elements.{in_place, place, valid_bits}
use Rattle.enumset_sets.specs.Laws.Elements.{place_is_valid}

in_range : (a n q : ℕ) → is_in q (range_with_len a n) ≡ (nat_le a q && nat_lt q (a + n))
in_range a zero q = grind (arith, nat_tests)
in_range a (suc n) q = let rest = in_range (a + 1) n q in grind (arith, nat_tests)

pub range_below : (n : ℕ) → from_list (range_with_len 0 n) ≡ below n
range_below n = same_set _ _ (λ q. contains_from_list _ q ∙ in_range 0 n q ∙ grind (arith, nat_tests) ∙ sym (contains_below n q))

pub valid_in_place : (D : Declared) → valid_bits (in_place D) ≡ below (length (rowss D.parts))
unfolding valid_bits
valid_in_place D = range_below (length (rowss D.parts))

pub place_below : (D : Declared) (v : D.D) → place D v < length (rowss D.parts)
place_below D v = ltb-true _ _ (sym (contains_below _ _) ∙ ap (λ s. contains s (place D v)) (sym (valid_in_place D)) ∙ (place_is_valid D v).1)

pub passed_next : (all : BitSet) (b : ℕ) (bs : List ℕ) → is_subset (difference all (from_list bs)) (insert (difference all (from_list (b ∷ bs))) b) ≡ true
passed_next all b bs = grind (arith, decided)

pub passed_whole : (D : Declared) (q : ℕ) → q < length (rowss D.parts) → contains (difference (valid_bits (in_place D)) (from_list [])) q ≡ true
passed_whole D q here = let none = contains_from_list [] q in rw valid_in_place (grind (arith, members, nat_tests))
