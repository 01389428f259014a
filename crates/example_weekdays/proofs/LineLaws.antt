-- How the lines of a text go on after the first.
use Rattle.std.proofs.Common.{◌≡◌, ◌==◌, ℕ, ◌-◌, ◌<◌, false, cond, List, [], ◌∷◌, ◌++◌, length, get_or, take, drop, refl, sym, ap, subst, ◌∙◌, arith, ne_eqb, eq-eqb, eqb-true, length-drop, inl, inr, Some, take-append-drop, take_all}
use Rattle.std.specs.Borrow.{Bor}
use Rattle.std.specs.Char.{encode_utf8}
use Rattle.std.specs.List.{slice_split, All}
use Rattle.std.specs.Str.{NoCharPasses}
use Rattle.std.specs.Str.Iter.{lines_steps, lines_rest}
use Rattle.std.specs.Str.Lines.{IsFirstLine, StripsCarriageReturn, lines, lines_of_parts, strip_carriage_return}
use Rattle.std.proofs.lemmas.Bool.{cases_lt}
use Rattle.std.proofs.lemmas.Bool.Decides.{nat_tests}
use Rattle.std.proofs.lemmas.Grind.{common_steps}
use Rattle.std.proofs.lemmas.List.{nil_from_length, get_or_default}
use Rattle.std.proofs.lemmas.List.Splits.{slice_split_none, slice_split_at, length-slice_split}
use Rattle.std.proofs.lemmas.Str.{NoCharPasses-byte}

no_newline : (text : List ℕ) → NoCharPasses (λ b. b == 10) text → All (λ b. (b == 10) ≡ false) text
no_newline text none = λ k d within.
    let same : get_or text k d ≡ get_or text k 0 = get_or_default text k d 0 within in
    elim (cases_lt (get_or text k 0) 128) [
      | inl low ↦ ap (λ b. b == 10) same ∙ NoCharPasses-byte (λ b. b == 10) text k none within low
      | inr high ↦ ap (λ b. b == 10) same ∙ grind (arith, nat_tests)
    ]

newline : encode_utf8 10 ≡ 10 ∷ []
unfolding encode_utf8
newline = refl

stripped : (l x : List ℕ) → StripsCarriageReturn l x → strip_carriage_return l ≡ x
stripped [] x (inl h) = sym h.0
stripped (b ∷ l) x (inl h) = ap (λ t. cond t (take (length (b ∷ l) - 1) (b ∷ l)) (b ∷ l)) (ne_eqb _ 13 (h.1 (omega arith))) ∙ sym h.0
stripped l x (inr e) =
    let last : get_or l (length l - 1) 0 ≡ 13 = grind (arith, common_steps) in
    let front : take (length l - 1) l ≡ x = grind (arith, common_steps) in
    ap (λ t. cond t (take (length l - 1) l) l) (eq-eqb _ 13 last) ∙ front

lines_of_parts-cons : (x : List ℕ) (parts : List (List ℕ)) → 0 < length parts → lines_of_parts (x ∷ parts) ≡ strip_carriage_return x ∷ lines_of_parts parts
lines_of_parts-cons x [] l = absurd (omega arith)
lines_of_parts-cons x (y ∷ more) l = refl

lines-first : (text line rest : List ℕ) → 0 < length text → IsFirstLine text line rest → lines text ≡ line ∷ lines rest
lines-first text line rest some (n, none, after, fits, whole, cut) =
    let front : All (λ b. (b == 10) ≡ false) (take n text) = no_newline (take n text) none in
    elim (cases_lt n (length text)) [
      | inl more ↦
          let o = after (omega (arith, length-drop n text)) in
          let next : drop n text ≡ 10 ∷ rest = o.2 ∙ ap (λ c. encode_utf8 c ++ rest) (eqb-true o.0 10 o.1) ∙ ap (λ v. v ++ rest) newline in
          ap lines (sym (take-append-drop n text) ∙ ap (λ v. take n text ++ v) next) ∙ ap lines_of_parts (slice_split_at (λ b. b == 10) (take n text) 10 rest front refl)
          ∙ lines_of_parts-cons (take n text) (slice_split (λ b. b == 10) rest) (omega (arith, length-slice_split (λ b. b == 10) rest)) ∙ ap (λ v. v ∷ lines rest) (stripped (take n text) line (cut more))
      | inr all ↦
          ap lines_of_parts (slice_split_none (λ b. b == 10) text (subst (All (λ b. (b == 10) ≡ false)) (take_all n text all) front)) ∙ ap (λ t. cond t [] (text ∷ [])) (ne_eqb (length text) 0 (λ z. omega arith))
          ∙ (λ i. sym (whole (omega arith)) i ∷ lines (sym (nil_from_length rest (omega arith)) i))
    ]

-- a step over the lines of a text: its first line, and the lines of what is left
pub lines_step : (s t : _) (line : Bor (List ℕ)) → lines_steps s (Some line) t → lines (lines_rest s) ≡ line.now ∷ lines (lines_rest t)
lines_step s t line (step, _) = lines-first (lines_rest s) line.now (lines_rest t) step.0 step.2
