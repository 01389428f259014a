-- The laws of sets as a user's proof cites them, over any sets.
--     is_sum, is_sum_by_least, is_sum_by_greatest, by_part      a function of sets is a sum, and a fact of all sets, each
--         by a form of induction
--     .._uses      each other law once, by subject
use Rattle.std.proofs.Common.{◌≡◌, ◌≢◌, ◌≤◌, ◌<◌, ◌↔◌, ℕ, ◌+◌, ◌*◌, ◌^◌, min, max, Bool, true, false, not, ◌&&◌, cond, List, ◌++◌, map, fold, filter, sum_by, count_by, Some, None, sym, ap, ◌∙◌, arith}
use Rattle.enumset.specs.Sets as set
use Rattle.enumset.specs.Sets.{BitSet, contains, is_subset, is_disjoint, is_same, union, intersection, difference, symmetric_difference, insert, remove, retain, only, empty, below, len, ascending, least, greatest, number, sum_over, image, union_all, from_list, is_in, is_distinct}

-- a set with a subset of it added is the set itself, here inside `Some`
extended : (s t : BitSet) → is_subset s t ≡ true → Some (union s t) ≡ Some t
extended s t within = ap (λ r. Some r) ((set.is_subset_iff_union s t).0 within)

-- ---- induction

module _ (f : ℕ → ℕ) (g : BitSet → ℕ) (none : g empty ≡ 0) where
  -- a function of sets is a sum if an absent number, once inserted, adds its own share
  pub is_sum : ((s : BitSet) (b : ℕ) → contains s b ≡ false → g (insert s b) ≡ g s + f b) → (s : BitSet) → g s ≡ sum_over f s
  is_sum more = set.set_induction (λ s. g s ≡ sum_over f s) (none ∙ sym (set.sum_empty f))
      (λ s b absent earlier. omega (arith, more s b absent, earlier, set.sum_insert f s b absent))

  pub is_sum_by_least : ((s : BitSet) (m : ℕ) → least s ≡ Some m → g s ≡ g (remove s m) + f m) → (s : BitSet) → g s ≡ sum_over f s
  is_sum_by_least more = set.set_induction_least (λ s. g s ≡ sum_over f s) (none ∙ sym (set.sum_empty f))
      (λ s m first earlier. omega (arith, more s m first, earlier, set.sum_remove f s m (set.least_facts s m first).0))

  pub is_sum_by_greatest : ((s : BitSet) (m : ℕ) → greatest s ≡ Some m → g s ≡ g (remove s m) + f m) → (s : BitSet) → g s ≡ sum_over f s
  is_sum_by_greatest more = set.set_induction_greatest (λ s. g s ≡ sum_over f s) (none ∙ sym (set.sum_empty f))
      (λ s m last earlier. omega (arith, more s m last, earlier, set.sum_remove f s m (set.greatest_facts s m last).0))

-- a fact that each set has from some proper subset, or has by itself
pub by_part : (P : BitSet → Type 0) → ((s : BitSet) → ((t : BitSet) × (is_subset t s ≡ true) × (is_same t s ≡ false) × (P t → P s))) → (s : BitSet) → P s
by_part P part = set.set_induction_subsets P (λ s each. let from = part s in from.3 (each from.0 from.1 from.2))

-- ---- the lattice

module _ (s t u v : BitSet) (one : is_subset s t ≡ true) (other : is_subset u v ≡ true) where
  pub monotony_uses : (b : ℕ) → (is_subset (union s u) (union t v) ≡ true) × (is_subset (intersection s u) (intersection t v) ≡ true)
      × (is_subset (difference s v) (difference t u) ≡ true) × (is_subset (difference u t) (difference u s) ≡ true)
      × (is_subset (insert s b) (insert t b) ≡ true) × (is_subset (remove s b) (remove t b) ≡ true) × (is_disjoint t v ≡ true → is_disjoint s u ≡ true)
  monotony_uses b = (
    set.union_mono s t u v one other,
    set.intersection_mono s t u v one other,
    set.difference_mono s t v u one other,
    set.complement_antitone u s t one,
    set.insert_mono s t b one,
    set.remove_mono s t b one,
    set.is_disjoint_mono s t u v one other,
  )

  pub antisymmetry_use : is_subset t s ≡ true → Some s ≡ Some t
  antisymmetry_use back = ap (λ r. Some r) (set.is_subset_antisym s t one back)

pub inclusion_uses : (s t u : BitSet) (b : ℕ) → (is_disjoint s t ≡ is_disjoint t s) × ((is_subset s t ≡ true) ↔ (union s t ≡ t)) × ((is_subset s t ≡ true) ↔ (intersection s t ≡ s))
    × ((is_subset s t ≡ true) ↔ (difference s t ≡ empty)) × ((is_disjoint s t ≡ true) ↔ (difference s t ≡ s)) × (is_subset u (intersection s t) ≡ (is_subset u s && is_subset u t))
    × (is_subset (union s t) u ≡ (is_subset s u && is_subset t u)) × (is_subset u (difference s t) ≡ (is_subset u s && is_disjoint u t))
    × (is_subset (insert s b) t ≡ (contains t b && is_subset s t)) × (is_disjoint (union s t) u ≡ (is_disjoint s u && is_disjoint t u))
inclusion_uses s t u b = (
  set.is_disjoint_comm s t,
  set.is_subset_iff_union s t,
  set.is_subset_iff_intersection s t,
  set.is_subset_iff s t,
  set.is_disjoint_iff_difference s t,
  set.is_subset_intersection u s t,
  set.is_subset_union s t u,
  set.is_subset_difference u s t,
  set.is_subset_insert s t b,
  set.is_disjoint_union s t u,
)

-- ---- equations

pub algebra_uses : (s t u : BitSet) (b c : ℕ) → (b ≢ c) → (Some (union s (intersection t u)) ≡ Some (intersection (union s t) (union s u)))
    × (Some (intersection s (symmetric_difference t u)) ≡ Some (symmetric_difference (intersection s t) (intersection s u)))
    × (Some (symmetric_difference (symmetric_difference s t) u) ≡ Some (symmetric_difference s (symmetric_difference t u)))
    × (remove (remove s b) c ≡ remove (remove s c) b) × (remove (insert s b) c ≡ insert (remove s c) b) × (insert (remove s b) b ≡ insert s b) × (remove (insert s b) b ≡ remove s b)
algebra_uses s t u b c other = (
  ap (λ r. Some r) (set.union_over_intersection s t u),
  ap (λ r. Some r) (set.intersection_over_symmetric_difference s t u),
  ap (λ r. Some r) (set.symmetric_difference_assoc s t u),
  set.remove_comm s b c,
  set.insert_remove_comm s b c other,
  set.insert_removed s b,
  set.remove_inserted s b,
)

module _ (s t : BitSet) (p q : ℕ → Bool) where
  pub retain_uses : (b : ℕ) → (retain (retain s p) q ≡ retain s (λ b. p b && q b)) × (retain s (λ _. true) ≡ s) × (retain s (λ _. false) ≡ empty) × (retain empty p ≡ empty)
      × (retain (insert s b) p ≡ cond (p b) (insert (retain s p) b) (retain s p)) × (retain (union s t) p ≡ union (retain s p) (retain t p))
      × (retain (intersection s t) p ≡ intersection (retain s p) (retain t p)) × (retain (difference s t) p ≡ difference (retain s p) (retain t p))
      × (is_subset (retain s p) s ≡ true) × (retain s (contains t) ≡ intersection s t) × (retain s (λ b. not (contains t b)) ≡ difference s t)
  retain_uses b = (
    set.retain_retain s p q,
    set.retain_all s,
    set.retain_none s,
    set.retain_empty p,
    set.retain_insert s b p,
    set.retain_union s t p,
    set.retain_intersection s t p,
    set.retain_difference s t p,
    set.retain_is_subset s p,
    set.retain_contains s t,
    set.retain_outside s t,
  )

  pub parts_uses : (union (retain s p) (retain s (λ b. not (p b))) ≡ s) × (is_disjoint (retain s p) (retain s (λ b. not (p b))) ≡ true)
      × (len (retain s p) + len (retain s (λ b. not (p b))) ≡ len s) × (len (retain s p) ≡ count_by p (ascending s)) × (ascending (retain s p) ≡ filter p (ascending s))
  parts_uses = (set.retain_parts s p, set.retain_apart s p, set.len_retain_parts s p, set.len_retain s p, set.ascending_retain s p)

  pub tests_uses : ((b : ℕ) → contains s b ≡ true → p b ≡ q b) → is_subset s t ≡ true → (retain s p ≡ retain s q) × (is_subset (retain s p) (retain t p) ≡ true)
  tests_uses same within = (set.retain_same s p q same, set.retain_mono s t p within)

-- ---- sums

-- a fold that takes the least of the members' values so far, with any list of the members
pub fold_uses : (f : ℕ → ℕ → ℕ) (commutes : (a b c : ℕ) → f (f a b) c ≡ f (f a c) b) (a : ℕ) (s t : BitSet) (b : ℕ) (bs : List ℕ)
    → contains s b ≡ false → is_disjoint s t ≡ true → is_distinct bs ≡ true → ((q : ℕ) → is_in q bs ≡ is_in q bs)
    → (fold f a (ascending (insert s b)) ≡ f (fold f a (ascending s)) b) × (fold f a (ascending (union s t)) ≡ fold f (fold f a (ascending s)) (ascending t))
    × (fold f a bs ≡ fold f a (ascending (from_list bs))) × (fold f a bs ≡ fold f a bs)
fold_uses f commutes a s t b bs absent apart distinct same =
    (set.fold_insert f commutes a s b absent, set.fold_union f commutes a s t apart, set.fold_listed f commutes a bs distinct, set.fold_same f commutes a bs bs distinct distinct same)

module _ (f g : ℕ → ℕ) (s t : BitSet) where
  pub sum_uses : (b : ℕ) (bs : List ℕ) → is_distinct bs ≡ true → (sum_over f (only b) ≡ f b) × (sum_over f (from_list bs) ≡ sum_by f bs)
      × (sum_over f (union s t) + sum_over f (intersection s t) ≡ sum_over f s + sum_over f t) × (sum_over f (difference s t) + sum_over f (intersection s t) ≡ sum_over f s)
      × (sum_over (λ b. f b + g b) s ≡ sum_over f s + sum_over g s) × (sum_over (λ _. 3) s ≡ 3 * len s) × (sum_over (λ _. 1) s ≡ len s)
  sum_uses b bs distinct = (
    set.sum_only f b,
    set.sum_listed f bs distinct,
    set.sum_union f s t,
    set.sum_parts f s t,
    set.sum_plus f g s,
    set.sum_constant 3 s,
    set.sum_ones s,
  )

  pub sum_order_uses : is_disjoint s t ≡ true → is_subset s t ≡ true → ((b : ℕ) → contains s b ≡ true → f b ≡ g b) → ((b : ℕ) → contains s b ≡ true → f b ≤ 9)
      → (sum_over f (union s t) ≡ sum_over f s + sum_over f t) × (sum_over f s ≤ sum_over f t) × (sum_over f s ≡ sum_over g s) × (sum_over f s ≤ sum_over g s) × (sum_over f s ≤ 9 * len s)
  sum_order_uses apart within same most = (
    set.sum_disjoint_union f s t apart,
    set.sum_subset f s t within,
    set.sum_same f g s same,
    set.sum_le f g s (λ b one. omega (arith, same b one)),
    set.sum_at_most f 9 s most,
  )

pub number_uses : (s t : BitSet) (b c : ℕ) (bs : List ℕ) → contains s b ≡ false → contains s c ≡ true → is_disjoint s t ≡ true → is_distinct bs ≡ true
    → (number (insert s b) ≡ number s + 2 ^ b) × (number (remove s c) + 2 ^ c ≡ number s) × (number (union s t) ≡ number s + number t) × (number (from_list bs) ≡ sum_by (λ b. 2 ^ b) bs)
number_uses s t b c bs absent one apart distinct = (set.number_insert s b absent, set.number_remove s c one, set.number_disjoint_union s t apart, set.number_listed bs distinct)

-- ---- images

module _ (f g : ℕ → ℕ) (s t : BitSet) where
  pub image_uses : (q b : ℕ) → contains s b ≡ true → ((contains (image f s) q ≡ true) ↔ ((b : ℕ) × (contains s b ≡ true) × (q ≡ f b))) × (contains (image f s) (f b) ≡ true)
      × ((is_subset (image f s) t ≡ true) ↔ ((b : ℕ) → contains s b ≡ true → contains t (f b) ≡ true)) × (image f empty ≡ empty) × (image f (only b) ≡ only (f b))
      × (image f (insert s b) ≡ insert (image f s) (f b)) × (image f (union s t) ≡ union (image f s) (image f t)) × (image (λ b. b) s ≡ s)
      × (image g (image f s) ≡ image (λ b. g (f b)) s) × (len (image f s) ≤ len s)
  image_uses q b one = (
    set.contains_image f s q,
    set.image_member f s b one,
    set.is_subset_image f s t,
    set.image_empty f,
    set.image_only f b,
    set.image_insert f s b,
    set.image_union f s t,
    set.image_itself s,
    set.image_image f g s,
    set.len_image f s,
  )

  pub image_order_uses : is_subset s t ≡ true → ((b : ℕ) → contains s b ≡ true → f b ≡ g b)
      → ((b c : ℕ) → contains s b ≡ true → contains s c ≡ true → f b ≡ f c → b ≡ c)
      → (is_subset (image f s) (image f t) ≡ true) × (image f s ≡ image g s) × (len (image f s) ≡ len s)
  image_order_uses within same apart = (set.image_mono f s t within, set.image_same f g s same, set.len_image_injective f s apart)

-- ---- sizes, and members that must be there

pub size_uses : (v s t : BitSet) (b n : ℕ) → is_subset s v ≡ true → is_disjoint s t ≡ true → (len (difference v s) + len s ≡ len v) × (len (union s t) ≡ len s + len t)
    × (len (union s t) ≤ len s + len t) × (len (only b) ≡ 1) × (len (below n) ≡ n) × ((len s ≡ 1) ↔ ((b : ℕ) × (s ≡ only b))) × (len s ≡ len v → Some s ≡ Some v)
size_uses v s t b n within apart = (
  set.len_complement v s within,
  set.len_disjoint_union s t apart,
  set.len_union_most s t,
  set.len_only b,
  set.len_all_below n,
  set.len_one_iff s,
  λ same. ap (λ r. Some r) (set.subset_equality s v within same),
)

-- with more than 32 members, a set has one from 32 on; two sets below 64 with more than 64 members together share one;
-- a function from a larger set into a smaller one takes one value twice
pub member_uses : (s t : BitSet) (f : ℕ → ℕ) → 32 < len s → len t < len s → is_subset s (below 64) ≡ true → is_subset t (below 64) ≡ true → 64 < len s + len t
    → ((b : ℕ) → contains s b ≡ true → contains t (f b) ≡ true)
    → ((b : ℕ) × (contains s b ≡ true)) × ((b : ℕ) × (contains s b ≡ true) × (contains t b ≡ false)) × ((b : ℕ) × (contains s b ≡ true) × (32 ≤ b))
    × ((b : ℕ) × (contains s b ≡ true) × (contains t b ≡ true)) × ((b : ℕ) × (c : ℕ) × (contains s b ≡ true) × (contains s c ≡ true) × (b ≢ c) × (f b ≡ f c))
member_uses s t f many more one other both each = (
  set.some_one s (omega (arith, many)),
  set.member_outside s t more,
  set.pigeonhole_below s 32 many,
  set.pigeonhole_within (below 64) s t one other (omega (arith, set.len_all_below 64, both)),
  set.pigeonhole_image f s t each more,
)

-- ---- the ends

module _ (s t : BitSet) (a b : ℕ) where
  pub least_uses : (c : ℕ) → least s ≡ Some a → least t ≡ Some b → ((least s ≡ None) ↔ (s ≡ empty)) × (least (insert s c) ≡ Some (min c a)) × (least (union s t) ≡ Some (min a b)) × (is_subset s t ≡ true → b ≤ a)
  least_uses c first other = (set.least_none_iff s, set.least_insert s c a first, set.least_union s t a b first other, λ within. set.least_subset s t a b within first other)

  pub greatest_uses : (c : ℕ) → greatest s ≡ Some a → greatest t ≡ Some b → ((greatest s ≡ None) ↔ (s ≡ empty)) × (greatest (insert s c) ≡ Some (max c a)) × (greatest (union s t) ≡ Some (max a b)) × (is_subset s t ≡ true → a ≤ b)
  greatest_uses c last other = (set.greatest_none_iff s, set.greatest_insert s c a last, set.greatest_union s t a b last other, λ within. set.greatest_subset s t a b within last other)

  pub list_uses : ((b c : ℕ) → contains s b ≡ true → contains t c ≡ true → b < c) → ascending (union s t) ≡ ascending s ++ ascending t
  list_uses before = set.ascending_union s t before

-- ---- the union of the sets of the members

-- what is reached from a set in one step:  more is reached from more
pub union_all_uses : (next : ℕ → BitSet) (s t : BitSet) (b : ℕ) → contains s b ≡ true → is_subset s t ≡ true → ((c : ℕ) → contains s c ≡ true → is_subset (next c) t ≡ true)
    → (is_subset (next b) (union_all (map next (ascending s))) ≡ true) × (is_subset (union_all (map next (ascending s))) t ≡ true)
    × (is_subset (union_all (map next (ascending s))) (union_all (map next (ascending t))) ≡ true)
union_all_uses next s t b one within closed = (set.union_all_member next s b one, set.union_all_within next s t closed, set.union_all_mono next s t within)
