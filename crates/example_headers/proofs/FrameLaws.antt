-- Laws of the bytes of frames.
use Rattle.std.proofs.Common.{◌≡◌, ℕ, ◌-◌, ◌≤◌, List, [], ◌∷◌, length, take, drop, slice_index, sym, ap, arith, take_all}

-- two bytes, and the bytes after them
pub split : (bytes : List ℕ) → 2 ≤ length bytes → bytes ≡ slice_index bytes 0 ∷ slice_index bytes 1 ∷ take (length bytes - 2) (drop 2 bytes)
split [] long = absurd (omega arith)
split (x ∷ []) long = absurd (omega arith)
split (x ∷ y ∷ rest) long = ap (λ l. x ∷ y ∷ l) (sym (take_all _ rest (omega arith)))
