-- The parts of a text between bytes of one value.
use Rattle.std.proofs.Common.{◌≡◌, ℕ, ◌+◌, ◌<◌, ◌≤◌, Bool, true, false, not, List, [], ◌∷◌, length, get_or, take, drop, Some, None, inl, inr, arith, position}
use Rattle.std.specs.List.{slice_split, prefix_len}
use lib.Lanes.{chunk}
use Rattle.std.proofs.lemmas.List.{take_rest}
use Rattle.std.proofs.lemmas.List.Splits.{slice_split_first, slice_split_none}
use Rattle.std.proofs.lemmas.List.Sums.{fails_before_first, position_or_len_is}
use Rattle.std.proofs.lemmas.Simd.{run_in_chunk_fails, run_in_chunk_stops}
use Rattle.std.proofs.lemmas.Bool.{cases_lt}
use Rattle.std.proofs.lemmas.Bool.Decides.{nat_tests}

pub split-at : (p : ℕ → Bool) (s : List ℕ) (i : ℕ) → position p s ≡ Some i → slice_split p s ≡ take i s ∷ slice_split p (drop (i + 1) s)
split-at p s i h = let first = slice_split_first p s 0 in grind (arith, nat_tests)

pub split-past : (p : ℕ → Bool) (s : List ℕ) → position p s ≡ None → slice_split p s ≡ s ∷ []
split-past p s h = slice_split_none p s (λ k d within. fails_before_first p s k d (grind (arith, nat_tests)))

-- ---- the first byte that passes, sixteen bytes at a time

-- no byte below i passes p
abbrev pub NoneBelow : (ℕ → Bool) → List ℕ → ℕ → Type 0
NoneBelow p s i = (k : ℕ) → k < i → p (get_or s k 0) ≡ false

pub position-at : (p : ℕ → Bool) (s : List ℕ) (i : ℕ) → i < length s → NoneBelow p s i → p (get_or s i 0) ≡ true → position p s ≡ Some i
position-at p s i l before here =
    let first = position_or_len_is p s i 0 (omega arith) before (λ _. here) in grind (arith, nat_tests)

pub position-none : (p : ℕ → Bool) (s : List ℕ) → NoneBelow p s (length s) → position p s ≡ None
position-none p s all =
    let first = position_or_len_is p s (length s) 0 (omega arith) all (λ l. absurd (omega arith)) in grind (arith, nat_tests)

pub none_in_chunk : (p : ℕ → Bool) (s : List ℕ) (b r : ℕ) → b + 16 ≤ length s → NoneBelow p s b → r ≡ prefix_len (λ x. not (p x)) (chunk b 16 s) → NoneBelow p s (b + r)
none_in_chunk p s b r room before counted i l =
    elim (cases_lt i b) [
      | inl h ↦ before i h
      | inr h ↦ run_in_chunk_fails p s b 16 r 0 room counted i h l
    ]

pub found_in_chunk : (p : ℕ → Bool) (s : List ℕ) (b r : ℕ) → b + 16 ≤ length s → NoneBelow p s b → r ≡ prefix_len (λ x. not (p x)) (chunk b 16 s) → r < 16 → position p s ≡ Some (b + r)
found_in_chunk p s b r room before counted short =
    position-at p s (b + r) (omega arith) (none_in_chunk p s b r room before counted) (run_in_chunk_stops p s b 16 r 0 room counted short)

pub ruleset part_steps = (split-at, split-past, take_rest)
