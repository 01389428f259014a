-- The bytes of a text, two digits at a time.
use Rattle.std.proofs.Common.{◌≡◌, ℕ, ◌+◌, ◌*◌, List, [], ◌∷◌, ◌++◌, length, slice_index, Option, Some, None, refl, ap, sym, append_assoc, arith, option_map}
use Rattle.example_headers.specs.Digits.{digit_of, bytes_of}

-- the bytes so far, and then the bytes of the remaining digits
abbrev pub after : List ℕ → Option (List ℕ) → Option (List ℕ)
after bytes more = option_map (λ later. bytes ++ later) more

pub after_more : (bytes : List ℕ) (byte : ℕ) (more : Option (List ℕ)) → after bytes (option_map (λ later. byte ∷ later) more) ≡ after (bytes ++ byte ∷ []) more
after_more bytes byte None = refl
after_more bytes byte (Some later) = ap Some (sym (append_assoc bytes (byte ∷ []) later))

-- two digits, and the bytes of the digits after them
pub bytes_of_pair : (all pair rest : List ℕ) (high low : ℕ) → all ≡ pair ++ rest → length pair ≡ 2 → digit_of (slice_index pair 0) ≡ Some high → digit_of (slice_index pair 1) ≡ Some low
    → bytes_of all ≡ option_map (λ later. (high * 16 + low) ∷ later) (bytes_of rest)
bytes_of_pair all [] rest high low cut two first second = absurd (omega arith)
bytes_of_pair all (x ∷ []) rest high low cut two first second = absurd (omega arith)
bytes_of_pair all (x ∷ y ∷ []) rest high low cut two first second = rw (cut, first, second) refl
bytes_of_pair all (x ∷ y ∷ z ∷ pair) rest high low cut two first second = absurd (omega arith)
