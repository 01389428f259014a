-- Laws of sets by membership: what `contains` returns for each set in `BitSet`.
--     contains_..      what `contains` returns for such a set;  the ruleset `members` has those that name no list
--     same_set, is_same_iff      sets with the same members are equal
--     same_in, same_both      values made from such sets in the same way are equal
--     is_subset_.., contains_is_subset, is_subset_iff      a subset, by its members;  by an empty difference
--     is_disjoint_.., contains_is_disjoint, is_disjoint_iff      disjoint sets, by their members;  by an empty
--         intersection
--     union_only, difference_only      a union and a difference with the set of one number
--     .._is_subset      the result of an operation on subsets of a set is a subset of it;  the ruleset `subsets` has
--         them all
--     member_below, contains_past      members of sets of numbers below a bound
--     list_all_any, list_all_each      a test that passes each number of a list
--     is_same-IsEquivalence, is_same-IsPartialEquivalence      `is_same` is an equivalence
use Rattle.std.proofs.Common.{◌≡◌, ◌<◌, ◌≤◌, ℕ, suc, zero, Bool, true, false, cond, not, ◌&&◌, ◌||◌, List, [], ◌∷◌, Option, Some, None, refl, sym, ap, subst, true≢false, ◌∙◌, arith, ◌==◌, nat_lt, is_some, ◌↔◌, nat_cmp, ltb-true, eq-eqb, Equal}
use Rattle.std.proofs.lemmas.Bool.{and_parts, and_from, or_left, or_right, not-true, false_from_ne_true}
use Rattle.std.proofs.lemmas.Bool.Decides.{nat_tests, same_from_decides}
use Rattle.std.specs.Cmp.{nat_cmp_total, unsigned_tied, IsEquivalence, IsPartialEquivalence, partial_equiv_from_equiv}
use Rattle.std.specs.List.{list_any, list_all}
use Rattle.enumset_repr.specs.BitSet.{BitSet, contains, ascending, empty, insert, only, remove, retain, from_list, insert_each, union, intersection, difference, symmetric_difference, is_subset, is_disjoint, is_same, below, low}
use Rattle.std.specs.FinMap as map

marked : Bool → Option (Unit {0})
marked b = cond b (Some tt) None

mark_of : (x : Option (Unit {0})) → x ≡ marked (is_some x)
unfolding marked
mark_of None = refl
mark_of (Some u) = refl

-- ---- membership

pub contains_empty : (q : ℕ) → contains empty q ≡ false
unfolding contains empty
contains_empty q = ap is_some (map.get-empty nat_cmp q)

pub contains_insert : (s : BitSet) (b q : ℕ) → contains (insert s b) q ≡ ((q == b) || contains s q)
unfolding contains insert
contains_insert s b q = ap is_some (map.get-insert nat_cmp_total s b tt q) ∙ grind (arith, nat_tests, unsigned_tied q b)

pub contains_remove : (s : BitSet) (b q : ℕ) → contains (remove s b) q ≡ (not (q == b) && contains s q)
unfolding contains remove
contains_remove s b q = ap is_some (map.get-remove nat_cmp_total s b q) ∙ grind (arith, nat_tests, unsigned_tied q b)

alike : (p : ℕ → Bool) (q x : ℕ) → nat_cmp q x ≡ Equal → p x ≡ p q
alike p q x e = ap p (sym (map.nat_cmp-IsAntisymmetric q x e))

pub contains_retain : (s : BitSet) (p : ℕ → Bool) (q : ℕ) → contains (retain s p) q ≡ (contains s q && p q)
unfolding contains retain
contains_retain s p q = ap is_some (map.get-retain_keys s p q (alike p q)) ∙ grind (arith, nat_tests)

pub contains_ascending : (s : BitSet) (q : ℕ) → contains s q ≡ list_any (λ b. q == b) (ascending s)
unfolding contains ascending
contains_ascending s q = map.contains_key-keys s q ∙ ap (λ (f : ℕ → Bool). list_any f (map.keys s)) (λ i b. unsigned_tied q b i)

pub contains_insert_each : (s : BitSet) (bs : List ℕ) (q : ℕ) → contains (insert_each s bs) q ≡ (contains s q || list_any (λ b. q == b) bs)
unfolding insert_each
contains_insert_each s [] q = grind (arith, nat_tests)
contains_insert_each s (b ∷ bs) q = contains_insert _ b q ∙ grind (arith, nat_tests, contains_insert_each s bs q)

pub contains_from_list : (bs : List ℕ) (q : ℕ) → contains (from_list bs) q ≡ list_any (λ b. q == b) bs
unfolding from_list
contains_from_list [] q = contains_empty q
contains_from_list (b ∷ bs) q = contains_insert _ b q ∙ ap (λ t. (q == b) || t) (contains_from_list bs q)

pub contains_union : (s t : BitSet) (q : ℕ) → contains (union s t) q ≡ (contains s q || contains t q)
unfolding union
contains_union s t q = contains_insert_each s (ascending t) q ∙ ap (λ b. contains s q || b) (sym (contains_ascending t q))

pub contains_intersection : (s t : BitSet) (q : ℕ) → contains (intersection s t) q ≡ (contains s q && contains t q)
unfolding intersection
contains_intersection s t q = contains_retain s (contains t) q

pub contains_difference : (s t : BitSet) (q : ℕ) → contains (difference s t) q ≡ (contains s q && not (contains t q))
unfolding difference
contains_difference s t q = contains_retain s (λ b. not (contains t b)) q

pub contains_symmetric_difference : (s t : BitSet) (q : ℕ) → contains (symmetric_difference s t) q ≡ ((contains s q && not (contains t q)) || (contains t q && not (contains s q)))
unfolding symmetric_difference
contains_symmetric_difference s t q = contains_union _ _ q ∙ ap (λ b. b || contains (difference t s) q) (contains_difference s t q) ∙ ap (λ b. (contains s q && not (contains t q)) || b) (contains_difference t s q)

pub contains_below : (n q : ℕ) → contains (below n) q ≡ nat_lt q n
unfolding below
contains_below zero q = contains_empty q ∙ grind (arith, nat_tests)
contains_below (suc n) q = contains_insert _ n q ∙ ap (λ t. (q == n) || t) (contains_below n q) ∙ grind (arith, nat_tests)

pub contains_low : (s : BitSet) (n q : ℕ) → contains (low s n) q ≡ (contains s q && nat_lt q n)
unfolding low
contains_low s n q = contains_retain s (λ b. nat_lt b n) q

-- What a proof by members needs: `same_set _ _ (λ q. grind (arith, members))`.
pub ruleset members = (contains_empty, contains_insert, contains_remove, contains_retain, contains_union, contains_intersection, contains_difference, contains_symmetric_difference, contains_below, contains_low)

-- ---- sets with the same members are equal, and a subset by its members

pub same_set : (s t : BitSet) → ((q : ℕ) → contains s q ≡ contains t q) → s ≡ t
unfolding contains
same_set s t is = map.same_map nat_cmp_total map.nat_cmp-IsAntisymmetric s t (λ q. mark_of _ ∙ ap marked (is q) ∙ sym (mark_of _))

-- values made from such sets are equal, like `Some` of a set or a pair of sets: a search does not look inside them
pub same_in : {A : Type 0} (f : BitSet → A) (s t : BitSet) → ((q : ℕ) → contains s q ≡ contains t q) → f s ≡ f t
same_in f s t is = ap f (same_set s t is)

pub same_both : {A : Type 0} (f : BitSet → BitSet → A) (s t u v : BitSet) → ((q : ℕ) → contains s q ≡ contains t q) → ((q : ℕ) → contains u q ≡ contains v q) → f s u ≡ f t v
same_both f s t u v is also = ap (λ x. f x u) (same_set s t is) ∙ ap (f t) (same_set u v also)

pub list_all_any : (p : ℕ → Bool) (bs : List ℕ) (q : ℕ) → list_all p bs ≡ true → list_any (λ b. q == b) bs ≡ true → p q ≡ true
list_all_any p [] q all any = absurd (true≢false (sym any))
list_all_any p (b ∷ bs) q all any = let later = list_all_any p bs q in grind (arith, nat_tests, later)

pub list_all_each : (p : ℕ → Bool) (bs : List ℕ) → ((q : ℕ) → list_any (λ b. q == b) bs ≡ true → p q ≡ true) → list_all p bs ≡ true
list_all_each p [] each = refl
list_all_each p (b ∷ bs) each =
    and_from (p b) _ (each b (or_left (b == b) _ (eq-eqb b b refl))) (list_all_each p bs (λ q one. each q (or_right (q == b) _ one)))

pub is_subset_contains : (s t : BitSet) → is_subset s t ≡ true → (q : ℕ) → contains s q ≡ true → contains t q ≡ true
unfolding is_subset
is_subset_contains s t sub q in_s = list_all_any (contains t) (ascending s) q sub (sym (contains_ascending s q) ∙ in_s)

pub contains_is_subset : (s t : BitSet) → ((q : ℕ) → contains s q ≡ true → contains t q ≡ true) → is_subset s t ≡ true
unfolding is_subset
contains_is_subset s t each = list_all_each (contains t) (ascending s) (λ q one. each q (contains_ascending s q ∙ one))

pub is_subset_itself : (s : BitSet) → is_subset s s ≡ true
is_subset_itself s = contains_is_subset s s (λ q h. h)

pub is_disjoint_contains : (s t : BitSet) → is_disjoint s t ≡ true → (q : ℕ) → contains s q ≡ true → contains t q ≡ false
unfolding is_disjoint
is_disjoint_contains s t apart q in_s = not-true _ (list_all_any (λ b. not (contains t b)) (ascending s) q apart (sym (contains_ascending s q) ∙ in_s))

pub contains_is_disjoint : (s t : BitSet) → ((q : ℕ) → contains s q ≡ true → contains t q ≡ false) → is_disjoint s t ≡ true
unfolding is_disjoint
contains_is_disjoint s t each = list_all_each (λ b. not (contains t b)) (ascending s) (λ q one. ap not (each q (contains_ascending s q ∙ one)))

-- two sets are disjoint exactly if their intersection is empty
pub is_disjoint_iff : (s t : BitSet) → (is_disjoint s t ≡ true) ↔ (intersection s t ≡ empty)
is_disjoint_iff s t = (
  λ apart. same_set _ _ (λ q. let each = is_disjoint_contains s t apart q in grind (arith, members)),
  λ none. contains_is_disjoint s t (λ q in_s. let here = ap (λ u. contains u q) none in grind (arith, members)),
)

-- s is a subset of t exactly if no member of s is outside t
pub is_subset_iff : (s t : BitSet) → (is_subset s t ≡ true) ↔ (difference s t ≡ empty)
is_subset_iff s t = (
  λ sub. same_set _ _ (λ q. let each = is_subset_contains s t sub q in grind (arith, members)),
  λ none. contains_is_subset s t (λ q in_s. let here = ap (λ u. contains u q) none in grind (arith, members)),
)

-- sets are equal exactly if they have the same members
pub is_same_iff : (s t : BitSet) → (is_same s t ≡ true) ↔ (s ≡ t)
unfolding is_same
is_same_iff s t = (
  λ same. same_set s t (λ q. same_from_decides _ _ (is_subset_contains s t (and_parts _ _ same).0 q, is_subset_contains t s (and_parts _ _ same).1 q) (λ h. h, λ h. h)),
  λ e. and_from _ _ (subst (λ u. is_subset s u ≡ true) e (is_subset_itself s)) (subst (λ u. is_subset u s ≡ true) e (is_subset_itself s)),
)

-- ---- a set of one number

-- a union with one number inserts it
pub union_only : (s : BitSet) (b : ℕ) → union s (only b) ≡ insert s b
union_only s b = same_set _ _ (λ q. grind (arith, members))

-- a difference with one number removes it
pub difference_only : (s : BitSet) (b : ℕ) → difference s (only b) ≡ remove s b
difference_only s b = same_set _ _ (λ q. grind (arith, members))

-- ---- subsets of one set

module _ (v : BitSet) where
  pub empty_is_subset : is_subset empty v ≡ true
  empty_is_subset = contains_is_subset empty v (λ q one. grind (arith, members))

  pub insert_is_subset : (s : BitSet) (b : ℕ) → is_subset s v ≡ true → contains v b ≡ true → is_subset (insert s b) v ≡ true
  insert_is_subset s b sub in_v = contains_is_subset _ v (λ q one. let each = is_subset_contains s v sub q in grind (arith, members, nat_tests))

  pub remove_is_subset : (s : BitSet) (b : ℕ) → is_subset s v ≡ true → is_subset (remove s b) v ≡ true
  remove_is_subset s b sub = contains_is_subset _ v (λ q one. let each = is_subset_contains s v sub q in grind (arith, members))

  pub union_is_subset : (s t : BitSet) → is_subset s v ≡ true → is_subset t v ≡ true → is_subset (union s t) v ≡ true
  union_is_subset s t sub also = contains_is_subset _ v (λ q one. let each = is_subset_contains s v sub q in let more = is_subset_contains t v also q in grind (arith, members))

  pub intersection_is_subset : (s t : BitSet) → is_subset s v ≡ true → is_subset (intersection s t) v ≡ true
  intersection_is_subset s t sub = contains_is_subset _ v (λ q one. let each = is_subset_contains s v sub q in grind (arith, members))

  pub difference_is_subset : (s t : BitSet) → is_subset s v ≡ true → is_subset (difference s t) v ≡ true
  difference_is_subset s t sub = contains_is_subset _ v (λ q one. let each = is_subset_contains s v sub q in grind (arith, members))

  pub symmetric_difference_is_subset : (s t : BitSet) → is_subset s v ≡ true → is_subset t v ≡ true → is_subset (symmetric_difference s t) v ≡ true
  symmetric_difference_is_subset s t sub also = contains_is_subset _ v (λ q one. let each = is_subset_contains s v sub q in let more = is_subset_contains t v also q in grind (arith, members))

-- a member of a set of numbers below n is below n
pub member_below : (s : BitSet) (n b : ℕ) → is_subset s (below n) ≡ true → contains s b ≡ true → b < n
member_below s n b sub in_s = ltb-true b n (sym (contains_below n b) ∙ is_subset_contains s (below n) sub b in_s)

-- a number at or past a bound of the members is not a member
pub contains_past : (s : BitSet) (n b : ℕ) → is_subset s (below n) ≡ true → n ≤ b → contains s b ≡ false
contains_past s n b sub past = false_from_ne_true (contains s b) (λ in_s. omega (arith, past, member_below s n b sub in_s))

-- The result of an operation on subsets of a set v is a subset of v:
-- `#[tactic(auto, using(enumset_repr::specs::Laws::Members::subsets))]`.
pub ruleset subsets = (is_subset_itself, empty_is_subset, insert_is_subset, remove_is_subset, union_is_subset, intersection_is_subset, difference_is_subset, symmetric_difference_is_subset)

-- ---- `is_same` is an equivalence

pub is_same-IsEquivalence : IsEquivalence is_same
is_same-IsEquivalence = record {
  refl = λ s. (is_same_iff s s).1 refl;
  symm = λ s t. same_from_decides _ _ (is_same_iff s t) (λ h. sym ((is_same_iff t s).0 h), λ e. (is_same_iff t s).1 (sym e));
  congr = λ s t u same. (λ i. is_same ((is_same_iff s t).0 same i) u);
}

pub is_same-IsPartialEquivalence : IsPartialEquivalence is_same
is_same-IsPartialEquivalence = partial_equiv_from_equiv is_same-IsEquivalence
