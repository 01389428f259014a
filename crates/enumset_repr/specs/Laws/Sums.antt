-- Folds and sums over a set: the order in which the members are taken does not matter.
--     fold_insert, fold_union      a fold by a function that commutes, over a set with an absent number inserted, and
--         over a union of disjoint sets
--     fold_listed, fold_same      such a fold over a list that names each member once, in any order
--     sum_empty, sum_only, sum_insert, sum_remove      the sum over the empty set, one number, a set with an absent
--         number inserted, a set without a member
--     sum_disjoint_union, sum_union, sum_parts      the sum over a union of disjoint sets;  of any two sets, with their
--         intersection;  over the parts of a set outside and inside another
--     sum_listed      the sum over a set whose members are listed, each once
--     sum_same, sum_le, sum_subset      equal terms, greater terms, a subset
--     sum_plus, sum_constant, sum_ones, sum_at_most      the sum of two functions;  equal terms as a product;  `len` as
--         a sum of ones;  a bound by the greatest term
--     number_insert, number_remove, number_disjoint_union, number_listed      the number of a set with an absent number
--         inserted, of a set without a member, of a union of disjoint sets, of a set whose members are listed
use Rattle.std.proofs.Common.{◌≡◌, ◌≤◌, ℕ, ◌+◌, ◌*◌, ◌^◌, Bool, true, false, cond, List, [], ◌∷◌, fold, sum_by, refl, sym, ap, ◌∙◌, arith, ◌==◌, nat_lt, mul-zero}
use Rattle.std.proofs.lemmas.Bool.{and_parts, not-true}
use Rattle.std.proofs.lemmas.Bool.Decides.{nat_tests}
use Rattle.enumset_repr.specs.BitSet.{BitSet, is_in, contains, ascending, len, empty, insert, only, remove, from_list, union, intersection, difference, is_subset, is_disjoint}
use Rattle.enumset_repr.specs.Number.{number, is_distinct}
use Rattle.enumset_repr.specs.Laws.Algebra.{contains_removed, insert_remove, union_empty, union_insert}
use Rattle.enumset_repr.specs.Laws.Ascending.{ascending_empty, len_empty}
use Rattle.enumset_repr.specs.Laws.Counting.{len_inserted}
use Rattle.enumset_repr.specs.Laws.Firsts.{insert_sorted, ascending_insert}
use Rattle.enumset_repr.specs.Rules.Members.{decided}
use Rattle.enumset_repr.specs.Laws.Members.{same_set, contains_empty, contains_from_list, contains_ascending}
use Rattle.enumset_repr.specs.Laws.Sets.{difference_parts}
use Rattle.enumset_repr.specs.Laws.Induction.{set_induction}
use Rattle.enumset_repr.specs.Sum.{sum_over}

-- ---- folds by a function that commutes

module _ {A : Type 0} (f : A → ℕ → A) (commutes : (a : A) (b c : ℕ) → f (f a b) c ≡ f (f a c) b) where
  -- the item that is taken first may be taken last
  fold_moves : (a : A) (b : ℕ) (xs : List ℕ) → fold f (f a b) xs ≡ f (fold f a xs) b
  fold_moves a b [] = refl
  fold_moves a b (x ∷ xs) = ap (λ c. fold f c xs) (commutes a b x) ∙ fold_moves (f a x) b xs

  fold_sorted : (a : A) (b : ℕ) (xs : List ℕ) → is_in b xs ≡ false → fold f a (insert_sorted b xs) ≡ f (fold f a xs) b
  fold_sorted a b [] none = refl
  fold_sorted a b (x ∷ xs) none = at (nat_lt b x) (b == x) refl (fold_sorted (f a x) b xs) where
    at : (less same : Bool) → (b == x) ≡ same → (is_in b xs ≡ false → fold f (f a x) (insert_sorted b xs) ≡ f (fold f (f a x) xs) b)
        → fold f a (cond less (b ∷ x ∷ xs) (cond same (x ∷ xs) (x ∷ insert_sorted b xs))) ≡ f (fold f a (x ∷ xs)) b
    at true same is later = fold_moves a b (x ∷ xs)
    at false true is later = absurd (grind (arith, nat_tests))
    at false false is later = later (grind (arith, nat_tests))

  -- a fold over a set with an absent number inserted takes that number last
  pub fold_insert : (a : A) (s : BitSet) (b : ℕ) → contains s b ≡ false → fold f a (ascending (insert s b)) ≡ f (fold f a (ascending s)) b
  fold_insert a s b none = ap (fold f a) (ascending_insert s b) ∙ fold_sorted a b (ascending s) (sym (contains_ascending s b) ∙ none)

  -- a fold over any list without repeats is the fold over the set of its numbers
  pub fold_listed : (a : A) (bs : List ℕ) → is_distinct bs ≡ true → fold f a bs ≡ fold f a (ascending (from_list bs))
  unfolding from_list
  fold_listed a [] apart = ap (fold f a) (sym ascending_empty)
  fold_listed a (b ∷ bs) apart =
      fold_moves a b bs
      ∙ ap (λ c. f c b) (fold_listed a bs (and_parts _ _ apart).1)
      ∙ sym (fold_insert a (from_list bs) b (contains_from_list bs b ∙ not-true _ (and_parts _ _ apart).0))

  -- two lists with the same numbers, each once, have the same fold
  pub fold_same : (a : A) (bs cs : List ℕ) → is_distinct bs ≡ true → is_distinct cs ≡ true → ((q : ℕ) → is_in q bs ≡ is_in q cs) → fold f a bs ≡ fold f a cs
  fold_same a bs cs one other same =
      fold_listed a bs one
      ∙ ap (λ s. fold f a (ascending s)) (same_set _ _ (λ q. contains_from_list bs q ∙ same q ∙ sym (contains_from_list cs q)))
      ∙ sym (fold_listed a cs other)

  -- a fold over a union of disjoint sets goes over the one, and on over the other
  pub fold_union : (a : A) (s t : BitSet) → is_disjoint s t ≡ true → fold f a (ascending (union s t)) ≡ fold f (fold f a (ascending s)) (ascending t)
  fold_union a s t = set_induction
      (λ t. is_disjoint s t ≡ true → fold f a (ascending (union s t)) ≡ fold f (fold f a (ascending s)) (ascending t))
      (λ apart. ap (λ u. fold f a (ascending u)) (union_empty s) ∙ ap (fold f (fold f a (ascending s))) (sym ascending_empty))
      (λ t b absent earlier apart.
      let part : is_disjoint s t ≡ true = grind (arith, decided) in
      let outside : contains (union s t) b ≡ false = grind (arith, decided) in
      ap (λ u. fold f a (ascending u)) (union_insert s t b)
      ∙ fold_insert a (union s t) b outside
      ∙ ap (λ c. f c b) (earlier part)
      ∙ sym (fold_insert (fold f a (ascending s)) t b absent))
      t

-- ---- sums

module _ (f : ℕ → ℕ) where
  plus_commutes : (a b c : ℕ) → a + f b + f c ≡ a + f c + f b
  plus_commutes a b c = omega arith

  -- the sum over the empty set is 0
  pub sum_empty : sum_over f empty ≡ 0
  sum_empty = ap (sum_by f) ascending_empty

  -- an absent number that is inserted adds its term
  pub sum_insert : (s : BitSet) (b : ℕ) → contains s b ≡ false → sum_over f (insert s b) ≡ sum_over f s + f b
  sum_insert s b none = fold_insert (λ a c. a + f c) plus_commutes 0 s b none

  -- the sum over one number is its term
  pub sum_only : (b : ℕ) → sum_over f (only b) ≡ f b
  sum_only b = omega (arith, sum_insert empty b (contains_empty b), sum_empty)

  -- a member that is removed takes its term away
  pub sum_remove : (s : BitSet) (b : ℕ) → contains s b ≡ true → sum_over f (remove s b) + f b ≡ sum_over f s
  sum_remove s b one = sym (sum_insert (remove s b) b (contains_removed s b)) ∙ ap (sum_over f) (insert_remove s b one)

  -- the sum over the set of a list without repeats is the sum over the list
  pub sum_listed : (bs : List ℕ) → is_distinct bs ≡ true → sum_over f (from_list bs) ≡ sum_by f bs
  sum_listed bs apart = sym (fold_listed (λ a c. a + f c) plus_commutes 0 bs apart)

  -- the sum over a union of disjoint sets is the sum of both
  pub sum_disjoint_union : (s t : BitSet) → is_disjoint s t ≡ true → sum_over f (union s t) ≡ sum_over f s + sum_over f t
  sum_disjoint_union s = set_induction
      (λ t. is_disjoint s t ≡ true → sum_over f (union s t) ≡ sum_over f s + sum_over f t)
      (λ apart. omega (arith, ap (sum_over f) (union_empty s), sum_empty))
      (λ t b absent earlier apart.
      let part : is_disjoint s t ≡ true = grind (arith, decided) in
      let outside : contains (union s t) b ≡ false = grind (arith, decided) in
      omega (arith, ap (sum_over f) (union_insert s t b), sum_insert (union s t) b outside, earlier part, sum_insert t b absent))

  -- the sums over the parts of s outside t and inside t
  pub sum_parts : (s t : BitSet) → sum_over f (difference s t) + sum_over f (intersection s t) ≡ sum_over f s
  sum_parts s t =
      let apart : is_disjoint (difference s t) (intersection s t) ≡ true = grind (arith, decided) in
      sym (sum_disjoint_union (difference s t) (intersection s t) apart) ∙ ap (sum_over f) (difference_parts s t)

  -- the sums over a union and an intersection are together the sums over the two sets
  pub sum_union : (s t : BitSet) → sum_over f (union s t) + sum_over f (intersection s t) ≡ sum_over f s + sum_over f t
  sum_union s t =
      let apart : is_disjoint (difference s t) t ≡ true = grind (arith, decided) in
      let whole : union (difference s t) t ≡ union s t = grind (arith, decided) in
      omega (arith, sum_disjoint_union (difference s t) t apart, ap (sum_over f) whole, sum_parts s t)

  -- the sum over a subset is at most the sum over the set
  pub sum_subset : (s t : BitSet) → is_subset s t ≡ true → sum_over f s ≤ sum_over f t
  sum_subset s t within =
      let part : intersection t s ≡ s = grind (arith, decided) in
      omega (arith, sum_parts t s, ap (sum_over f) part)

-- functions that agree on the members have the same sum
pub sum_same : (f g : ℕ → ℕ) (s : BitSet) → ((b : ℕ) → contains s b ≡ true → f b ≡ g b) → sum_over f s ≡ sum_over g s
sum_same f g = set_induction
    (λ s. ((b : ℕ) → contains s b ≡ true → f b ≡ g b) → sum_over f s ≡ sum_over g s)
    (λ same. sum_empty f ∙ sym (sum_empty g))
    (λ s b absent earlier same. omega (
      arith,
      sum_insert f s b absent,
      sum_insert g s b absent,
      same b (grind (arith, decided)),
      earlier (λ c one. same c (grind (arith, decided))),
    ))

-- a function that is at most another on the members has at most its sum
pub sum_le : (f g : ℕ → ℕ) (s : BitSet) → ((b : ℕ) → contains s b ≡ true → f b ≤ g b) → sum_over f s ≤ sum_over g s
sum_le f g = set_induction
    (λ s. ((b : ℕ) → contains s b ≡ true → f b ≤ g b) → sum_over f s ≤ sum_over g s)
    (λ more. omega (arith, sum_empty f, sum_empty g))
    (λ s b absent earlier more. omega (
      arith,
      sum_insert f s b absent,
      sum_insert g s b absent,
      more b (grind (arith, decided)),
      earlier (λ c one. more c (grind (arith, decided))),
    ))

-- the sum of two functions is the sum of their sums
pub sum_plus : (f g : ℕ → ℕ) (s : BitSet) → sum_over (λ b. f b + g b) s ≡ sum_over f s + sum_over g s
sum_plus f g = set_induction
    (λ s. sum_over (λ b. f b + g b) s ≡ sum_over f s + sum_over g s)
    (omega (arith, sum_empty (λ b. f b + g b), sum_empty f, sum_empty g))
    (λ s b absent earlier. omega (arith, sum_insert (λ b. f b + g b) s b absent, sum_insert f s b absent, sum_insert g s b absent, earlier))

-- the sum of equal terms is their product with the size of the set
pub sum_constant : (m : ℕ) (s : BitSet) → sum_over (λ _. m) s ≡ m * len s
sum_constant m = set_induction
    (λ s. sum_over (λ _. m) s ≡ m * len s)
    (sum_empty (λ _. m) ∙ sym (ap (λ n. m * n) len_empty ∙ mul-zero m))
    (λ s b absent earlier. omega (arith, sum_insert (λ _. m) s b absent, earlier, ap (λ n. m * n) (len_inserted s b absent)))

-- the size of a set is a sum of ones
pub sum_ones : (s : BitSet) → sum_over (λ _. 1) s ≡ len s
sum_ones s = omega (arith, sum_constant 1 s)

-- the sum is at most the size of the set times a bound of the terms
pub sum_at_most : (f : ℕ → ℕ) (m : ℕ) (s : BitSet) → ((b : ℕ) → contains s b ≡ true → f b ≤ m) → sum_over f s ≤ m * len s
sum_at_most f m s most = omega (arith, sum_le f (λ _. m) s most, sum_constant m s)

-- ---- the number of a set

-- an absent number that is inserted adds its power of two
pub number_insert : (s : BitSet) (b : ℕ) → contains s b ≡ false → number (insert s b) ≡ number s + 2 ^ b
unfolding number
number_insert s b none = sum_insert (λ b. 2 ^ b) s b none

-- a member that is removed takes its power of two away
pub number_remove : (s : BitSet) (b : ℕ) → contains s b ≡ true → number (remove s b) + 2 ^ b ≡ number s
unfolding number
number_remove s b one = sum_remove (λ b. 2 ^ b) s b one

-- the number of a union of disjoint sets is the sum of their numbers
pub number_disjoint_union : (s t : BitSet) → is_disjoint s t ≡ true → number (union s t) ≡ number s + number t
unfolding number
number_disjoint_union s t apart = sum_disjoint_union (λ b. 2 ^ b) s t apart

-- the number of the set of a list without repeats is the sum of its powers of two
pub number_listed : (bs : List ℕ) → is_distinct bs ≡ true → number (from_list bs) ≡ sum_by (λ b. 2 ^ b) bs
unfolding number
number_listed bs apart = sum_listed (λ b. 2 ^ b) bs apart
