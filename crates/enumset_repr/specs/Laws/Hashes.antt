-- What numbers feed to a hasher: different numbers of one width feed different bytes, and different lists of equally
-- many words feed different lists of bytes.
--     same_bytes      numbers with the same k lowest bytes are equal, if they have no more bytes
--     same_words      lists of words that feed the same are equal, if they have the same length
--     byte_hash, integer_hash      integers that feed the same are equal: of one byte;  of more bytes
use Rattle.std.proofs.Common.{◌≡◌, ◌<◌, ℕ, suc, zero, ◌+◌, ◌*◌, ◌/◌, ◌%◌, ◌^◌, List, [], ◌∷◌, length, slice_index, refl, sym, ap, ◌∙◌, arith, pow-suc, subst}
use Rattle.std.proofs.Math.Arith.{mod-mul}
use Rattle.std.proofs.Math.Nat.{div-div-eq-div-mul, mod-eq_of_lt}
use Rattle.std.specs.Hash.{le_bytes}
use Rattle.std.specs.Hash as fed
use Rattle.std.specs.Int.{byte_at, bytes_low_first}
use Rattle.std.specs.List.{flat_map}
use Rattle.enumset_repr.specs.Laws.Integers.{below_power}
use Rattle.enumset_repr.specs.Number.{IsInteger}

positive : (k : ℕ) → 0 < 256 ^ k
positive zero = omega arith
positive (suc k) = omega (arith, positive k, pow-suc 256 k)

whole : (k n : ℕ) → n < 256 ^ k → n / 256 ^ 0 % 256 ^ k ≡ n
whole k n fits = let e : n / 256 ^ 0 ≡ n = omega arith in ap (λ m. m % 256 ^ k) e ∙ mod-eq_of_lt fits

byte_is : (i n : ℕ) → byte_at i n ≡ n / 256 ^ i % 256
byte_is zero n = omega arith
byte_is (suc i) n = refl

-- the k + 1 bytes from byte i on are that byte and the k bytes from the next on
one_byte_more : (i k n : ℕ) → n / 256 ^ i % 256 ^ suc k ≡ (n / 256 ^ suc i % 256 ^ k) * 256 + byte_at i n
one_byte_more i k n =
    let above : n / 256 ^ i / 256 ≡ n / 256 ^ suc i = div-div-eq-div-mul n (256 ^ i) 256 ∙ ap (λ m. n / m) (sym (pow-suc 256 i)) in
    ap (λ m. n / 256 ^ i % m) (pow-suc 256 k) ∙ mod-mul (n / 256 ^ i) (positive k) (omega arith)
    ∙ ap (λ m. (m % 256 ^ k) * 256 + n / 256 ^ i % 256) above ∙ ap (λ b. (n / 256 ^ suc i % 256 ^ k) * 256 + b) (sym (byte_is i n))

same_bytes_from : (i k n m : ℕ) → bytes_low_first i k n ≡ bytes_low_first i k m → n / 256 ^ i % 256 ^ k ≡ m / 256 ^ i % 256 ^ k
same_bytes_from i zero n m same = omega arith
same_bytes_from i (suc k) n m same =
    let first : byte_at i n ≡ byte_at i m = cc in
    let others : bytes_low_first (suc i) k n ≡ bytes_low_first (suc i) k m = cc in
    let later = same_bytes_from (suc i) k n m others in
    one_byte_more i k n ∙ ap (λ r. r * 256 + byte_at i n) later ∙ ap (λ b. (m / 256 ^ suc i % 256 ^ k) * 256 + b) first ∙ sym (one_byte_more i k m)

-- numbers of k bytes are equal if they have the same bytes
pub same_bytes : (k n m : ℕ) → n < 256 ^ k → m < 256 ^ k → le_bytes k n ≡ le_bytes k m → n ≡ m
unfolding le_bytes
same_bytes k n m fits also same = sym (whole k n fits) ∙ same_bytes_from 0 k n m same ∙ whole k m also

-- lists of equally many words are equal if they feed the same
pub same_words : (us ws : List ℕ) → length us ≡ length ws → ((i : ℕ) → slice_index us i < 2 ^ 64) → ((i : ℕ) → slice_index ws i < 2 ^ 64) → flat_map fed.u64 us ≡ flat_map fed.u64 ws → us ≡ ws
same_words [] [] long fit also same = refl
same_words [] (w ∷ ws) long fit also same = absurd (omega (arith, long))
same_words (u ∷ us) [] long fit also same = absurd (omega (arith, long))
same_words (u ∷ us) (w ∷ ws) long fit also same =
    let first : le_bytes 8 u ≡ le_bytes 8 w = cc in
    let others : flat_map fed.u64 us ≡ flat_map fed.u64 ws = cc in
    let here = same_bytes 8 u w (omega (arith, fit 0)) (omega (arith, also 0)) first in
    let later = same_words us ws (omega (arith, long)) (λ i. fit (suc i)) (λ i. also (suc i)) others in
    λ i. here i ∷ later i

-- integers of one byte are equal if they feed the same
pub byte_hash : (a b : ℕ) → fed.u8 a ≡ fed.u8 b → a ≡ b
byte_hash a b same = cc

-- the same for integers of k bytes, which have w bits
pub integer_hash : (k w : ℕ) → 2 ^ w ≡ 256 ^ k → (a b : ℕ) → IsInteger w a → IsInteger w b → le_bytes k a ∷ [] ≡ le_bytes k b ∷ [] → a ≡ b
integer_hash k w wide a b fits also same =
    let bytes : le_bytes k a ≡ le_bytes k b = cc in
    same_bytes k a b (subst (λ m. a < m) wide (below_power w a fits)) (subst (λ m. b < m) wide (below_power w b also)) bytes
