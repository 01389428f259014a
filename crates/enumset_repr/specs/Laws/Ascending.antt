-- The list of a set's members, each once, ascending.
--     AscendsFrom      a list is ascending, and its first number is at least a given one
--     ascending_is      an ascending list of a set's members is `ascending` of that set
--     ascending_..      `ascending` of the empty set, and of a set with a least or a greatest member
--     len_..      `len` as the length of the list, of the empty set, after an insertion and a removal;  its bound
--     empty_of_..      a set without members is the empty set
use Rattle.std.proofs.Common.{◌≡◌, ◌<◌, ◌≤◌, ℕ, suc, ◌+◌, ◌-◌, true, false, cond, ◌||◌, List, [], ◌∷◌, ◌++◌, refl, sym, ap, subst, ◌∙◌, length, arith, T, map, ◌↔◌, ◌==◌, nat_cmp, eqb-true}
use Rattle.std.proofs.lemmas.Bool.{or_right}
use Rattle.std.proofs.lemmas.Bool.Decides.{nat_tests}
use Rattle.std.proofs.lemmas.List.{length-map}
use Rattle.std.specs.Cmp.{nat_cmp_total}
use Rattle.enumset_repr.specs.BitSet.{is_in, BitSet, contains, ascending, len, is_empty, empty, insert, remove, is_subset, below}
use Rattle.std.specs.FinMap as fin
use Rattle.std.specs.FinMap.{is_sorted}
use Rattle.enumset_repr.specs.Laws.Members.{members, same_set, contains_empty, contains_ascending, member_below}

-- the list is ascending, and its first number is at least k
abbrev pub AscendsFrom : ℕ → List ℕ → Type 0
AscendsFrom k [] = Unit {0}
AscendsFrom k (x ∷ xs) = (k ≤ x) × AscendsFrom (suc x) xs

keys-rise : (e : ℕ × Unit {0}) (es : List (ℕ × Unit {0})) → T (is_sorted nat_cmp (e ∷ es)) → AscendsFrom (suc e.0) (map (λ e. e.0) es)
keys-rise e [] h = tt
keys-rise e (f ∷ fs) h = (grind (arith, nat_tests), keys-rise f fs (grind (arith, nat_tests)))

entries-rise : (es : List (ℕ × Unit {0})) → T (is_sorted nat_cmp es) → AscendsFrom 0 (map (λ e. e.0) es)
entries-rise [] h = tt
entries-rise (e ∷ es) h = (omega arith, keys-rise e es h)

pub ascending_ascends : (s : BitSet) → AscendsFrom 0 (ascending s)
unfolding ascending
ascending_ascends s = entries-rise (fin.entries s) (fin.entries_sorted s)

pub is_in_below : (k q : ℕ) (xs : List ℕ) → AscendsFrom k xs → q < k → is_in q xs ≡ false
is_in_below k q [] ascends low = refl
is_in_below k q (x ∷ xs) ascends low = let later = is_in_below (suc x) q xs ascends.1 in grind (arith, nat_tests, ascends.0, later)

pub ascends_lower : (j k : ℕ) (xs : List ℕ) → j ≤ k → AscendsFrom k xs → AscendsFrom j xs
ascends_lower j k [] less ascends = tt
ascends_lower j k (x ∷ xs) less ascends = (omega (arith, ascends.0), ascends.1)

pub ascends_higher : (j k : ℕ) (xs : List ℕ) → AscendsFrom j xs → ((q : ℕ) → is_in q xs ≡ true → k ≤ q) → AscendsFrom k xs
ascends_higher j k [] ascends from = tt
ascends_higher j k (x ∷ xs) ascends from = (grind (arith, nat_tests, from x), ascends.1)

-- a number in a list that ascends from k is at least k
pub is_in_from : (k q : ℕ) (xs : List ℕ) → AscendsFrom k xs → is_in q xs ≡ true → k ≤ q
is_in_from k q [] ascends one = grind arith
is_in_from k q (x ∷ xs) ascends one = let later = is_in_from (suc x) q xs ascends.1 in grind (arith, nat_tests, ascends.0, later)

pub same_list : (k : ℕ) (xs ys : List ℕ) → AscendsFrom k xs → AscendsFrom k ys → ((q : ℕ) → is_in q xs ≡ is_in q ys) → xs ≡ ys
same_list k [] [] p q same = refl
same_list k [] (y ∷ ys) p q same = let here = same y in absurd (grind (arith, nat_tests))
same_list k (x ∷ xs) [] p q same = let here = same x in absurd (grind (arith, nat_tests))
same_list k (x ∷ xs) (y ∷ ys) p q same =
    let from_y = is_in_from (suc y) x ys q.1 in
    let from_x = is_in_from (suc x) y xs p.1 in
    let at_x = same x in
    let at_y = same y in
    let head : x ≡ y = grind (arith, nat_tests) in
    let rest : (r : ℕ) → is_in r xs ≡ is_in r ys = λ r. let at_r = same r in let low = is_in_below (suc x) r xs p.1 in let under = is_in_below (suc y) r ys q.1 in grind (arith, nat_tests) in
    (λ i. head i ∷ same_list (suc x) xs ys p.1 (subst (λ h. AscendsFrom (suc h) ys) (sym head) q.1) rest i)

-- an ascending list of a set's members is `ascending` of that set
pub ascending_is : (s : BitSet) (xs : List ℕ) → AscendsFrom 0 xs → ((q : ℕ) → contains s q ≡ is_in q xs) → ascending s ≡ xs
ascending_is s xs ascends is = same_list 0 (ascending s) xs (ascending_ascends s) ascends (λ q. sym (contains_ascending s q) ∙ is q)

pub ascending_empty : ascending empty ≡ []
ascending_empty = ascending_is empty [] tt contains_empty

pub len_ascending : (s : BitSet) → len s ≡ length (ascending s)
unfolding len ascending
len_ascending s = fin.len-entries s ∙ sym (length-map (fin.entries s) (λ e. e.0))

pub len_empty : len empty ≡ 0
unfolding len empty
len_empty = fin.len-empty nat_cmp (Unit {0})

pub len_insert : (s : BitSet) (b : ℕ) → len (insert s b) ≡ cond (contains s b) (len s) (len s + 1)
unfolding len insert contains
len_insert s b = fin.len-insert nat_cmp_total s b tt

pub len_remove : (s : BitSet) (b : ℕ) → len (remove s b) ≡ cond (contains s b) (len s - 1) (len s)
unfolding len remove contains
len_remove s b = fin.len-remove nat_cmp_total s b

ascends-push : (k m : ℕ) (xs : List ℕ) → k ≤ m → AscendsFrom k xs → ((q : ℕ) → is_in q xs ≡ true → q < m) → AscendsFrom k (xs ++ m ∷ [])
ascends-push k m [] within ascends small = (within, tt)
ascends-push k m (x ∷ xs) within ascends small = (ascends.0, ascends-push (suc x) m xs (grind (arith, nat_tests, small x)) ascends.1 (λ q one. small q (or_right (q == x) _ one)))

pub is_in_push : (q m : ℕ) (xs : List ℕ) → is_in q (xs ++ m ∷ []) ≡ ((q == m) || is_in q xs)
is_in_push q m [] = refl
is_in_push q m (x ∷ xs) = grind (arith, nat_tests, is_in_push q m xs)

-- each number before the last is less
pub before_last : (k : ℕ) (xs : List ℕ) (m q : ℕ) → AscendsFrom k (xs ++ m ∷ []) → is_in q xs ≡ true → q < m
before_last k [] m q ascends one = absurd (grind arith)
before_last k (x ∷ xs) m q ascends one =
    let over = is_in_from (suc x) m (xs ++ m ∷ []) ascends.1 in
    let later = before_last (suc x) xs m q ascends.1 in grind (arith, nat_tests, is_in_push m m xs)

-- the least member comes first, before the members of the set without it
pub ascending_first : (s : BitSet) (m : ℕ) → contains s m ≡ true → ((q : ℕ) → q < m → contains s q ≡ false) → ascending s ≡ m ∷ ascending (remove s m)
ascending_first s m one least = ascending_is s _
    (omega arith, ascends_higher 0 (suc m) _ (ascending_ascends (remove s m)) (λ q h. let none = least q in grind (arith, members, nat_tests, contains_ascending (remove s m) q)))
    (λ q. grind (arith, members, nat_tests, contains_ascending (remove s m) q))

-- the greatest member comes last, after the members of the set without it
pub ascending_last : (s : BitSet) (m : ℕ) → contains s m ≡ true → ((q : ℕ) → m < q → contains s q ≡ false) → ascending s ≡ ascending (remove s m) ++ m ∷ []
ascending_last s m one greatest = ascending_is s _
    (ascends-push 0 m _ (omega arith) (ascending_ascends (remove s m)) (λ q h. let none = greatest q in grind (arith, members, nat_tests, contains_ascending (remove s m) q)))
    (λ q. grind (arith, members, nat_tests, is_in_push q m (ascending (remove s m)), contains_ascending (remove s m) q))

pub empty_of_len : (s : BitSet) → len s ≡ 0 → s ≡ empty
unfolding len empty
empty_of_len s e = fin.empty_of_len s e

-- a set whose list is empty is the empty set
pub empty_of_ascending : (s : BitSet) → ascending s ≡ [] → s ≡ empty
empty_of_ascending s e = same_set s empty (λ q. contains_ascending s q ∙ ap (is_in q) e ∙ sym (contains_empty q))

length-ascends : (k n : ℕ) (xs : List ℕ) → AscendsFrom k xs → k ≤ n → ((q : ℕ) → is_in q xs ≡ true → q < n) → length xs + k ≤ n
length-ascends k n [] ascends within small = omega (arith, within)
length-ascends k n (x ∷ xs) ascends within small =
    let first : x < n = grind (arith, nat_tests, small x) in
    omega (arith, ascends.0, length-ascends (suc x) n xs ascends.1 first (λ q one. small q (or_right (q == x) _ one)))

-- a set of numbers below n has at most n members
pub len_below : (s : BitSet) (n : ℕ) → is_subset s (below n) ≡ true → len s ≤ n
len_below s n sub =
    omega (arith, len_ascending s, length-ascends 0 n (ascending s) (ascending_ascends s) (omega arith) (λ q one. member_below s n q sub (contains_ascending s q ∙ one)))

-- `is_empty` is true exactly for the empty set
pub is_empty_iff : (s : BitSet) → (is_empty s ≡ true) ↔ (s ≡ empty)
unfolding is_empty
is_empty_iff s = (
  λ none. empty_of_len s (eqb-true (len s) 0 none),
  λ e. ap (λ n. n == 0) (ap len e ∙ len_empty),
)
