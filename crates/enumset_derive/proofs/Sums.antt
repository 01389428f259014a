-- Numbers and words of different bits.
use Rattle.std.proofs.Common.{◌≡◌, ◌<◌, ℕ, suc, zero, ◌+◌, ◌-◌, ◌*◌, ◌%◌, ◌^◌, true, false, not, List, [], ◌∷◌, length, get_or, set, replicate, sum_by, refl, ap, sym, ◌∙◌, arith, eq-eqb, nat_lt, bit_or}
use Rattle.std.proofs.lemmas.Bool.{and_parts, and_from}
use Rattle.std.proofs.lemmas.Bool.Decides.{nat_tests}
use Rattle.enumset_repr.specs.BitSet.{is_in, insert, from_list}
use Rattle.enumset_repr.specs.Laws.BitLists.{bits_listed}
use Rattle.enumset_repr.specs.Laws.Numbers.{number_bits, bits_set}
use Rattle.enumset_repr.specs.Number.{number, bits, is_distinct, lists_bits}
use Rattle.enumset_repr.specs.Words.{in_first_word, in_later_words, lists_words}
use Rattle.enumset_derive.specs.Variants.{bits_of}
use Rattle.enumset_derive.specs.declared.plan.NamedVariant.{NamedVariant}

-- a number with listed bits, with one more bit set
pub lists_bits-cons : (w : ℕ) (bs : List ℕ) (b n : ℕ) → b < w → is_in b bs ≡ false → lists_bits bs n ≡ true → lists_bits (b ∷ bs) (bit_or n (1 * 2 ^ b % 2 ^ w)) ≡ true
unfolding from_list
lists_bits-cons w bs b n small new lists =
    let sum = sum_by (λ c. 2 ^ c) (b ∷ bs) in
    let apart : is_distinct (b ∷ bs) ≡ true = and_from _ _ (ap not new) (and_parts _ _ lists).0 in
    let same : bits (bit_or n (1 * 2 ^ b % 2 ^ w)) ≡ bits sum = bits_set w n b small ∙ ap (λ s. insert s b) (bits_listed bs n lists) ∙ sym (bits_listed (b ∷ bs) sum (and_from _ _ apart (eq-eqb sum sum refl))) in
    and_from _ _ apart (eq-eqb sum _ (sym (number_bits sum) ∙ ap number (sym same) ∙ number_bits _))

-- ---- words

out_of_first : (bs : List ℕ) (b : ℕ) → is_in b bs ≡ false → is_in b (in_first_word bs) ≡ false
out_of_first [] b out = refl
out_of_first (c ∷ bs) b out = let rest = out_of_first bs b in grind (arith, nat_tests, out)

out_of_later : (bs : List ℕ) (b : ℕ) → nat_lt b 64 ≡ false → is_in b bs ≡ false → is_in (b - 64) (in_later_words bs) ≡ false
out_of_later [] b large out = refl
out_of_later (c ∷ bs) b large out = let rest = out_of_later bs b large in grind (arith, nat_tests, large, out)

pub lists_words-none : (n : ℕ) (named : List NamedVariant) → length named ≡ 0 → lists_words (bits_of named) (replicate n 0) ≡ true
lists_words-none zero [] none = refl
lists_words-none (suc n) [] none = lists_words-none n [] none
lists_words-none n (m ∷ ms) none = absurd (omega (arith, none))

-- bit r of word k, which is x, is set
pub lists_words-cons : (ns bs : List ℕ) (k r b x : ℕ) → b ≡ 64 * k + r → r < 64 → k < length ns → is_in b bs ≡ false → lists_words bs ns ≡ true → x ≡ get_or ns k x → lists_words (b ∷ bs) (set ns k (bit_or x (1 * 2 ^ r % 2 ^ 64))) ≡ true
lists_words-cons [] bs k r b x at small within new lists read = absurd (omega (arith, within))
lists_words-cons (n ∷ ns) bs zero r b x at small within new lists read =
    let parts = and_parts (lists_bits (in_first_word bs) n) (lists_words (in_later_words bs) ns) lists in
    let same : b ≡ r = omega (arith, at) in
    let low : b < 64 = omega (arith, same, small) in
    let first : nat_lt b 64 ≡ true = grind (arith, nat_tests, low) in
    rw (first, ← same, read) (and_from _ _ (lists_bits-cons 64 (in_first_word bs) b n low (out_of_first bs b new) parts.0) parts.1)
lists_words-cons (n ∷ ns) bs (suc k) r b x at small within new lists read =
    let parts = and_parts (lists_bits (in_first_word bs) n) (lists_words (in_later_words bs) ns) lists in
    let later : nat_lt b 64 ≡ false = grind (arith, nat_tests, at) in
    rw later (and_from _ _ parts.0 (lists_words-cons ns (in_later_words bs) k r (b - 64) x (omega (arith, at)) small (omega (arith, within)) (out_of_later bs b later new) parts.1 read))
