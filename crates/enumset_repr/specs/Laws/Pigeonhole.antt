-- Members that must be there: sets of one member, and the pigeonhole principle.
--     some_one      a set that is not empty has a member
--     len_one_iff      the sets with one member are those of one number
--     member_outside      of two sets the one with more members has one that is not in the other
--     pigeonhole_below, pigeonhole_within      more than n numbers are not all below n;  two subsets of a set have a
--         member in common if together they have more members than the set
--     pigeonhole_image      where there are fewer values than members, two members have the same value
use Rattle.std.proofs.Common.{◌≡◌, ◌≢◌, ◌↔◌, ◌<◌, ◌≤◌, ◌+◌, ℕ, Bool, true, false, true≢false, Option, Some, None, refl, sym, ap, ◌∙◌, arith}
use Rattle.std.proofs.lemmas.Bool.Decides.{nat_tests}
use Rattle.enumset_repr.specs.BitSet.{BitSet, contains, len, insert, only, union, intersection, difference, is_subset, below}
use Rattle.enumset_repr.specs.Ends.{least}
use Rattle.enumset_repr.specs.Image.{image}
use Rattle.enumset_repr.specs.Laws.Algebra.{contains_inserted, insert_grows}
use Rattle.enumset_repr.specs.Laws.Ascending.{len_empty, empty_of_ascending}
use Rattle.enumset_repr.specs.Laws.Counting.{len_union, len_parts, len_inserted, len_intersection_right, len_subset, len_only, len_all_below, subset_equality}
use Rattle.enumset_repr.specs.Laws.Ends.{least_facts, ascending_no_least}
use Rattle.enumset_repr.specs.Laws.Images.{contains_image, image_insert, is_subset_image}
use Rattle.enumset_repr.specs.Laws.Induction.{set_induction}
use Rattle.enumset_repr.specs.Rules.Members.{decided}
use Rattle.enumset_repr.specs.Laws.Members.{members, contains_below, is_subset_contains}

-- a set that is not empty has a member
pub some_one : (s : BitSet) → 0 < len s → (b : ℕ) × (contains s b ≡ true)
some_one s more = at (least s) refl where
  at : (o : Option ℕ) → least s ≡ o → (b : ℕ) × (contains s b ≡ true)
  at None lacks = absurd (omega (arith, more, ap len (empty_of_ascending s (ascending_no_least s lacks)), len_empty))
  at (Some m) first = (m, (least_facts s m first).0)

-- a set has one member exactly if it is the set of one number
pub len_one_iff : (s : BitSet) → (len s ≡ 1) ↔ ((b : ℕ) × (s ≡ only b))
len_one_iff s = (
  λ single.
      let one = some_one s (omega (arith, single)) in
      let within : is_subset (only one.0) s ≡ true = let here = one.1 in grind (arith, decided) in
      (one.0, sym (subset_equality (only one.0) s within (len_only one.0 ∙ sym single))),
  λ one. ap len one.1 ∙ len_only one.0,
)

-- of two sets the one with more members has one that is not in the other
pub member_outside : (s t : BitSet) → len t < len s → (b : ℕ) × (contains s b ≡ true) × (contains t b ≡ false)
member_outside s t more =
    let one = some_one (difference s t) (omega (arith, more, len_parts s t, len_intersection_right s t)) in
    let here = one.1 in
    (one.0, grind (arith, members), grind (arith, members))

-- of more than n numbers one is not below n
pub pigeonhole_below : (s : BitSet) (n : ℕ) → n < len s → (b : ℕ) × (contains s b ≡ true) × (n ≤ b)
pigeonhole_below s n more =
    let one = member_outside s (below n) (omega (arith, more, len_all_below n)) in
    let past = one.2 in
    (one.0, one.1, grind (arith, nat_tests, contains_below n one.0))

-- two subsets of u have a member in common if together they have more members than u
pub pigeonhole_within : (u s t : BitSet) → is_subset s u ≡ true → is_subset t u ≡ true → len u < len s + len t → (b : ℕ) × (contains s b ≡ true) × (contains t b ≡ true)
pigeonhole_within u s t one other more =
    let within : is_subset (union s t) u ≡ true = grind (arith, decided) in
    let shared = some_one (intersection s t) (omega (arith, more, len_union s t, len_subset (union s t) u within)) in
    let here = shared.1 in
    (shared.0, grind (arith, members), grind (arith, members))

shared_value : (f : ℕ → ℕ) (s : BitSet) → len (image f s) < len s → (b : ℕ) × (c : ℕ) × (contains s b ≡ true) × (contains s c ≡ true) × (b ≢ c) × (f b ≡ f c)
shared_value f = set_induction
    (λ s. len (image f s) < len s → (b : ℕ) × (c : ℕ) × (contains s b ≡ true) × (contains s c ≡ true) × (b ≢ c) × (f b ≡ f c))
    (λ fewer. absurd (omega (arith, fewer, len_empty)))
    (λ s b absent earlier. step s b absent earlier (contains (image f s) (f b)) refl)
  where
    step : (s : BitSet) (b : ℕ) → contains s b ≡ false
        → (len (image f s) < len s → (c : ℕ) × (d : ℕ) × (contains s c ≡ true) × (contains s d ≡ true) × (c ≢ d) × (f c ≡ f d))
        → (t : Bool) → contains (image f s) (f b) ≡ t
        → len (image f (insert s b)) < len (insert s b)
        → (c : ℕ) × (d : ℕ) × (contains (insert s b) c ≡ true) × (contains (insert s b) d ≡ true) × (c ≢ d) × (f c ≡ f d)
    step s b absent earlier true here fewer =
        let found = (contains_image f s (f b)).0 here in (
          b,
          found.0,
          contains_inserted s b,
          is_subset_contains s (insert s b) (insert_grows s b) found.0 found.1,
          (λ same. true≢false (sym found.1 ∙ ap (contains s) (sym same) ∙ absent)),
          found.2,
        )
    step s b absent earlier false fresh fewer =
        let rest = earlier (omega (arith, fewer, ap len (image_insert f s b), len_inserted (image f s) (f b) fresh, len_inserted s b absent)) in (
          rest.0,
          rest.1,
          is_subset_contains s (insert s b) (insert_grows s b) rest.0 rest.2,
          is_subset_contains s (insert s b) (insert_grows s b) rest.1 rest.3,
          rest.4,
          rest.5,
        )

-- where there are fewer values than members, two members have the same value
pub pigeonhole_image : (f : ℕ → ℕ) (s t : BitSet) → ((b : ℕ) → contains s b ≡ true → contains t (f b) ≡ true) → len t < len s → (b : ℕ) × (c : ℕ) × (contains s b ≡ true) × (contains s c ≡ true) × (b ≢ c) × (f b ≡ f c)
pigeonhole_image f s t each fewer = shared_value f s (omega (arith, fewer, len_subset (image f s) t ((is_subset_image f s t).1 each)))
