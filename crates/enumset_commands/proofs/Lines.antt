-- How the lines of a text go on after the first.
use Rattle.std.proofs.Common.{◌≡◌, ◌==◌, ℕ, ◌<◌, ◌≤◌, List, [], ◌∷◌, length, length-append, refl, ap, ◌∙◌, cond, arith, ne_eqb}
use Rattle.std.specs.List.{slice_split, join_with_byte}
use Rattle.std.specs.Str.Lines.{lines, strip_carriage_return, lines_of_parts}
use Rattle.std.proofs.lemmas.List.Splits.{length-slice_split, join_with_byte-slice_split}

lines_of_parts-cons : (x : List ℕ) (parts : List (List ℕ)) → 0 < length parts → lines_of_parts (x ∷ parts) ≡ strip_carriage_return x ∷ lines_of_parts parts
lines_of_parts-cons x [] l = absurd (omega arith)
lines_of_parts-cons x (y ∷ more) l = refl

pub lines-cut : (s line rest : List ℕ) → slice_split (λ b. b == 10) s ≡ line ∷ slice_split (λ b. b == 10) rest → lines s ≡ strip_carriage_return line ∷ lines rest
lines-cut s line rest cut =
    ap lines_of_parts cut ∙ lines_of_parts-cons line (slice_split (λ b. b == 10) rest) (omega (arith, length-slice_split (λ b. b == 10) rest))

lines_of_parts-last : (x : List ℕ) → 0 < length x → lines_of_parts (x ∷ []) ≡ x ∷ []
lines_of_parts-last x l = ap (λ b. cond b [] (x ∷ [])) (ne_eqb (length x) 0 (λ z. omega arith))

pub lines-last : (s : List ℕ) → slice_split (λ b. b == 10) s ≡ s ∷ [] → 0 < length s → lines s ≡ s ∷ []
lines-last s last l = ap lines_of_parts last ∙ lines_of_parts-last s l

-- a text has no more lines than bytes
length-lines_of_parts : (parts : List (List ℕ)) → length (lines_of_parts parts) ≤ length (join_with_byte 10 parts)
length-lines_of_parts [] = omega arith
length-lines_of_parts ([] ∷ []) = omega arith
length-lines_of_parts ((x ∷ xs) ∷ []) = omega (arith, ap length (lines_of_parts-last (x ∷ xs) (omega arith)))
length-lines_of_parts (x ∷ y ∷ more) =
    omega (arith, length-append x (10 ∷ join_with_byte 10 (y ∷ more)), length-lines_of_parts (y ∷ more))

pub lines_are_few : (s : List ℕ) → length (lines s) ≤ length s
lines_are_few s = rw (join_with_byte-slice_split 10 s) at (length-lines_of_parts (slice_split (λ b. b == 10) s))

pub ruleset line_steps = (lines-cut, lines-last)
