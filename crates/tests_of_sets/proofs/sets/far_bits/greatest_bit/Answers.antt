use Rattle.std.proofs.Common.{◌≡◌, ◌<◌, ℕ, zero, suc, ◌+◌, ◌-◌, ◌*◌, ◌^◌, true, false, ◌&&◌, List, [], ◌∷◌, ◌++◌, length, replicate, slice_index, ◌==◌, if◌then◌else◌, nat_lt, refl, ap, ◌∙◌, arith, lit<, length-append, take_all}
use Rattle.std.proofs.lemmas.Bool.{or_right}
use Rattle.std.proofs.lemmas.Bool.Decides.{nat_tests}
use Rattle.std.proofs.lemmas.List.{length-replicate, drop_all}
use Rattle.std.specs.List.{list_all}
use Rattle.enumset_repr.specs.BitSet.{from_list}
use Rattle.enumset_repr.specs.Laws.BitLists.{words_listed}
use Rattle.enumset_repr.specs.Number.{lists_bits}
use Rattle.enumset_repr.specs.Words.{bits_of, lists_words}
use Rattle.enumset_array.specs.ArrayWords.{in_use, set_of, is_zero_past, IsArrayRepr}
use Rattle.enumset_sets.specs.Laws.Elements.{lawful_in}
use Rattle.enumset_worked.specs.contracts.pair_words.PairWords.{the_type}
use Rattle.tests_of_sets.specs.FarWords.{far_words}
use Rattle.tests_of_sets.proofs.sets.far_bits.greatest_bit.Goals as goal

-- the words after the first
abbrev rest : ℕ → List ℕ
rest n = replicate n 0 ++ (2 ^ 63) ∷ []

length-rest : (n : ℕ) → length (rest n) ≡ n + 1
length-rest n = omega (arith, length-append (replicate n 0) ((2 ^ 63) ∷ []), length-replicate {A = ℕ} n 0)

rest_fit : (n i : ℕ) → slice_index (rest n) i < 2 ^ 64
rest_fit zero zero = lit< tt
rest_fit zero (suc i) = lit< tt
rest_fit (suc n) zero = lit< tt
rest_fit (suc n) (suc i) = rest_fit n i

-- one bit, in the last of the words
rest_listed : (n b : ℕ) → b ≡ 64 * n + 63 → lists_words (b ∷ []) (rest n) ≡ true
rest_listed zero b is = let at : b ≡ 63 = omega (arith, is) in ap (λ x. lists_words (x ∷ []) ((2 ^ 63) ∷ [])) at
rest_listed (suc n) b is =
    let high : nat_lt b 64 ≡ false = grind (arith, nat_tests, is) in
    ap (λ t. lists_bits (if t then b ∷ [] else []) 0 && lists_words (if t then [] else (b - 64) ∷ []) (rest n)) high
    ∙ rest_listed n (b - 64) (omega (arith, is))

far_listed : (n b : ℕ) → b ≡ 64 * n + 127 → lists_words (0 ∷ b ∷ []) (far_words n) ≡ true
unfolding far_words
far_listed n b is =
    let high : nat_lt b 64 ≡ false = grind (arith, nat_tests, is) in
    ap (λ t. lists_bits (0 ∷ (if t then b ∷ [] else [])) 1 && lists_words (if t then [] else (b - 64) ∷ []) (rest n)) high
    ∙ rest_listed n (b - 64) (omega (arith, is))

length-far : (n : ℕ) → length (far_words n) ≡ n + 2
unfolding far_words
length-far n = omega (arith, length-rest n)

far_fit : (n i : ℕ) → slice_index (far_words n) i < 2 ^ 64
unfolding far_words
far_fit n zero = lit< tt
far_fit n (suc i) = rest_fit n i

-- the words as an `ArrayRepr`, all of which are in use
far_repr : (n m : ℕ) → m ≡ n + 2 → in_use m ≡ m → IsArrayRepr m (far_words n)
unfolding is_zero_past
far_repr n m is all = record {
  long = omega (arith, length-far n, is);
  fit = far_fit n;
  past = or_right _ _ (ap (list_all (λ w. w == 0)) (drop_all (in_use m) (far_words n) (omega (arith, length-far n, is, all))));
}

far_set : (n m b : ℕ) → m ≡ n + 2 → in_use m ≡ m → b ≡ 64 * n + 127 → set_of m (far_words n) ≡ from_list (0 ∷ b ∷ [])
far_set n m b is all at =
    ap bits_of (take_all (in_use m) (far_words n) (omega (arith, length-far n, is, all)))
    ∙ words_listed (0 ∷ b ∷ []) (far_words n) (far_listed n b at)

pub returns : goal.returns
returns c = record {
  width = refl;
  words = far_repr 67108861 67108863 refl refl;
  lawful = lawful_in {bs = 0 ∷ 4294967231 ∷ []} {width = 4294967232} {count = 2} the_type (far_set 67108861 67108863 4294967231 refl refl refl) tt;
}
