-- The names of a set's members, once sorted, are each before the next, since no two of them are the same.
use Rattle.std.proofs.Common.{◌≡◌, ◌+◌, ◌<◌, ◌≤◌, ◌==◌, ℕ, zero, suc, true, cond, Ordering, Less, Equal, Greater, unwrap_or, List, [], ◌∷◌, ◌++◌, Bor, length, map, zip, get_or, count_by, inl, inr, refl, sym, ap, subst, ◌∙◌, arith, true≢false, eq-eqb, eqb-true, ne_eqb, is_lt}
use Rattle.std.proofs.lemmas.Bool.{and_parts, cases_Bool}
use Rattle.std.proofs.lemmas.Cmp.{nat_list_cmp_total}
use Rattle.std.proofs.lemmas.List.{get_or-map, length-map}
use Rattle.std.proofs.lemmas.List.Elements.{All-from_recursion}
use Rattle.std.proofs.lemmas.List.Sorted.{IsPermutation-map, length_permutation, sum_by-IsPermutation, All-permutation}
use Rattle.std.proofs.lemmas.List.Sums.{sum_by-cons}
use Rattle.std.proofs.lemmas.Map.Keys.{sorted_from_all_adjacent}
use Rattle.std.proofs.lemmas.Simd.{map-map}
use Rattle.std.specs.List.{AllByRecursion, list_all}
use Rattle.std.specs.List.Sorted.{IsPermutation, IsSorted}
use Rattle.std.specs.Ordering.{ordering_reverse}
use Rattle.enumset_repr.specs.BitSet.{BitSet, ascending, from_list, is_in, is_subset}
use Rattle.enumset_repr.specs.Laws.Ascending.{AscendsFrom, ascending_ascends, len_ascending}
use Rattle.enumset_sets.specs.Laws.Elements.{bits_are_listed}
use Rattle.enumset.proofs.MapOrder.{Texts, by_bytes, by_bytes_total}
use Rattle.enumset.proofs.NameLaws.{AreNames, name_back}
use Rattle.enumset.proofs.NamesTaken.{same_key}
use Rattle.enumset.specs.JsonPlain.{AreMembers, AreRising, IsName}
use Rattle.enumset.specs.Names.{Names, name_of, bit_named}

-- ---- how often a number is in a list

module _ (b : ℕ) where
  abbrev one_if : ℕ → ℕ
  one_if x = cond (x == b) 1 0

  abbrev times : List ℕ → ℕ
  times = count_by (λ x. x == b)

  none_below : (low : ℕ) (xs : List ℕ) → AscendsFrom low xs → b < low → times xs ≡ 0
  none_below low [] ascends less = refl
  none_below low (x ∷ xs) ascends less =
      let other = ne_eqb x b (λ same. absurd (omega (arith, ascends.0, less, same))) in
      omega (arith, sum_by-cons one_if x xs, ap {B = ℕ} (λ c. cond c 1 0) other, none_below (suc x) xs ascends.1 (omega (arith, ascends.0, less)))

  at_most_once : (low : ℕ) (xs : List ℕ) → AscendsFrom low xs → times xs ≤ 1
  at_most_once low [] ascends = omega arith
  at_most_once low (x ∷ xs) ascends = elim (cases_Bool (x == b)) [
    | inl here ↦ omega (arith, sum_by-cons one_if x xs, ap {B = ℕ} (λ c. cond c 1 0) here, none_below (suc x) xs ascends.1 (omega (arith, eqb-true x b here)))
    | inr other ↦ omega (arith, sum_by-cons one_if x xs, ap {B = ℕ} (λ c. cond c 1 0) other, at_most_once (suc x) xs ascends.1)
  ]

  twice : (ys : List ℕ) (k d : ℕ) → k + 1 < length ys → get_or ys k d ≡ b → get_or ys (k + 1) d ≡ b → 1 < times ys
  twice [] k d under one two = absurd (omega (arith, under))
  twice (y ∷ []) k d under one two = absurd (omega (arith, under))
  twice (y ∷ z ∷ ys) zero d under one two =
      omega (arith, sum_by-cons one_if y (z ∷ ys), sum_by-cons one_if z ys, ap {B = ℕ} (λ c. cond c 1 0) (eq-eqb y b one), ap {B = ℕ} (λ c. cond c 1 0) (eq-eqb z b two))
  twice (y ∷ z ∷ ys) (suc k) d under one two =
      omega (arith, sum_by-cons one_if y (z ∷ ys), twice (z ∷ ys) k d (omega (arith, under)) one (subst (λ n. get_or (y ∷ z ∷ ys) n d ≡ b) {x = suc k + 1} {y = suc (k + 1)} (omega arith) two))

-- ---- names that are sorted

-- the bit of a name, for a name that a bit has
abbrev bit_of : Names → List ℕ → ℕ
bit_of names text = unwrap_or (bit_named names text) 0

bits_back : (bs : List ℕ) (names : List (List ℕ)) (cs : List ℕ) → AreNames bs names → list_all (λ c. is_in c bs) cs ≡ true → map (bit_of (zip bs names)) (map (name_of (zip bs names)) cs) ≡ cs
bits_back bs names [] are within = refl
bits_back bs names (c ∷ cs) are within =
    let parts = and_parts _ _ within in
    λ j. unwrap_or (name_back bs names c are parts.0 j) 0 ∷ bits_back bs names cs are parts.1 j

rising : (names : Names) (s : BitSet) (ns sorted : Texts) → map (λ n. bit_of names n.now) ns ≡ ascending s → IsPermutation ns sorted → IsSorted by_bytes sorted → AreRising sorted
rising names s ns sorted bits moved in_order = sorted_from_all_adjacent by_bytes_total sorted none (λ k under. at k under _ refl)
  where
    none : Bor (List ℕ)
    none = record { ref_ptr = (0, 0); now = [] }

    bit : Bor (List ℕ) → ℕ
    bit n = bit_of names n.now

    at : (k : ℕ) → k + 1 < length sorted → (o : Ordering) → by_bytes (get_or sorted k none) (get_or sorted (k + 1) none) ≡ o → by_bytes (get_or sorted k none) (get_or sorted (k + 1) none) ≡ Less
    at k under Less is = is
    at k under Greater is = absurd (true≢false (sym (ap is_lt (nat_list_cmp_total.antisymm (get_or sorted (k + 1) none).now (get_or sorted k none).now ∙ ap ordering_reverse is)) ∙ in_order k none (omega arith) under))
    at k under Equal is =
        let b = bit (get_or sorted k none) in
        let here : get_or (map bit sorted) k 0 ≡ b = get_or-map bit sorted k none 0 (omega (arith, under)) in
        let next : get_or (map bit sorted) (k + 1) 0 ≡ b = get_or-map bit sorted (k + 1) none 0 under ∙ ap (bit_of names) (sym (same_key (get_or sorted k none).now (get_or sorted (k + 1) none).now is)) in
        let as_often = sum_by-IsPermutation (one_if b) (map bit ns) (map bit sorted) (IsPermutation-map bit ns sorted moved) in
        absurd (omega (arith, twice b (map bit sorted) k 0 (omega (arith, under, length-map sorted bit)) here next, as_often, ap (times b) bits, at_most_once b 0 (ascending s) (ascending_ascends s)))

named_among : (names : Names) (bs all : List ℕ) → ((t : List ℕ) → IsName names bs t → IsName names all t) → AllByRecursion (IsName names all) (map (name_of names) bs)
named_among names [] all more = tt
named_among names (b ∷ bs) all more = (more _ (inl refl), named_among names bs all (λ t later. more t (inr later)))

each_text : (P : List ℕ → Type 0) (ns : Texts) → AllByRecursion P (map (λ n. n.now) ns) → AllByRecursion (λ n. P n.now) ns
each_text P [] each = tt
each_text P (n ∷ ns) each = (each.0, each_text P ns each.1)

-- the names of a set's members, once they are sorted
pub sorted_members : (bs : List ℕ) (names : List (List ℕ)) (s : BitSet) (ns sorted : Texts) → AreNames bs names → is_subset s (from_list bs) ≡ true
    → map (λ n. n.now) ns ≡ map (name_of (zip bs names)) (ascending s) → IsPermutation ns sorted → IsSorted by_bytes sorted → AreMembers (zip bs names) s sorted
sorted_members bs names s ns sorted are within texts moved in_order =
    let all = zip bs names in
    let named = IsName all (ascending s) in
    let bits = sym (map-map (bit_of all) (λ n. n.now) ns) ∙ ap (map (bit_of all)) texts ∙ bits_back bs names (ascending s) are (bits_are_listed bs (from_list bs) s refl within) in (
      rising all s ns sorted bits moved in_order,
      All-permutation (λ n. named n.now) ns sorted moved (All-from_recursion _ ns (each_text named ns (subst (AllByRecursion named) (sym texts) (named_among all (ascending s) (ascending s) (λ t i. i))))),
      omega (arith, length_permutation ns sorted moved, length-map ns (λ n. n.now), ap length texts, length-map (ascending s) (name_of all), len_ascending s),
    )

-- one more name, of the first of the bits that are left
pub name_more : (f : ℕ → List ℕ) (ns : Texts) (n : Bor (List ℕ)) (bits rest : List ℕ) (b : ℕ) → bits ≡ b ∷ rest → n.now ≡ f b → map (λ n. n.now) (ns ++ n ∷ []) ++ map f rest ≡ map (λ n. n.now) ns ++ map f bits
name_more f [] n bits rest b first is = (λ j. is j ∷ map f rest) ∙ ap (map f) (sym first)
name_more f (m ∷ ns) n bits rest b first is = ap (λ ts. m.now ∷ ts) (name_more f ns n bits rest b first is)
