-- How the words of a text go on after the first.
use Rattle.std.proofs.Common.{◌≡◌, ◌==◌, ℕ, ◌<◌, true, false, not, cond, List, [], ◌∷◌, ◌++◌, length, filter, get_or, refl, sym, ap, ◌∙◌, arith, ne_eqb, append-nil, inl, inr, Some, None}
use Rattle.std.specs.Char.{is_ascii_whitespace}
use Rattle.std.specs.List.{slice_split, All, AllByRecursion}
use Rattle.std.specs.Str.{NoCharPasses}
use Rattle.std.specs.Str.Iter.{IsAsciiSeparator, split_ascii_whitespace_steps, split_ascii_whitespace_text}
use Rattle.std.proofs.lemmas.Bool.Decides.{nat_tests}
use Rattle.std.proofs.lemmas.Bool.{cases_lt}
use Rattle.std.proofs.lemmas.List.{nil_from_length, get_or_default}
use Rattle.std.proofs.lemmas.List.Elements.{recursion_from_All}
use Rattle.std.proofs.lemmas.List.Splits.{slice_split-cons_yes, slice_split_none, slice_split_at}
use Rattle.std.proofs.lemmas.Str.{NoCharPasses-byte}
use Rattle.std.specs.Borrow.{Bor}
use Rattle.example_weekdays.specs.Schedules.{words_of}

words_of-skip : (b : ℕ) (text : List ℕ) → is_ascii_whitespace b ≡ true → words_of (b ∷ text) ≡ words_of text
words_of-skip b text white = ap (filter (λ word. not (length word == 0))) (slice_split-cons_yes is_ascii_whitespace b text white)

words_of-skip_all : (gap text : List ℕ) → AllByRecursion (λ b. is_ascii_whitespace b ≡ true) gap → words_of (gap ++ text) ≡ words_of text
words_of-skip_all [] text white = refl
words_of-skip_all (b ∷ gap) text white = words_of-skip b (gap ++ text) white.0 ∙ words_of-skip_all gap text white.1

-- no byte past ASCII is white space
no_white : (word : List ℕ) → NoCharPasses is_ascii_whitespace word → All (λ b. is_ascii_whitespace b ≡ false) word
no_white word none = λ k d within.
    let same : get_or word k d ≡ get_or word k 0 = get_or_default word k d 0 within in
    elim (cases_lt (get_or word k 0) 128) [
      | inl low ↦ ap is_ascii_whitespace same ∙ NoCharPasses-byte is_ascii_whitespace word k none within low
      | inr high ↦ ap is_ascii_whitespace same ∙ grind (arith, nat_tests)
    ]

-- a part that is a word
words_of-part : (word : List ℕ) (parts : List (List ℕ)) → 0 < length word → filter (λ w. not (length w == 0)) (word ∷ parts) ≡ word ∷ filter (λ w. not (length w == 0)) parts
words_of-part word parts some = ap (λ b. cond (not b) (word ∷ filter (λ w. not (length w == 0)) parts) (filter (λ w. not (length w == 0)) parts)) (ne_eqb (length word) 0 (λ z. omega arith))

-- a word, and one white space after it, or nothing
words_of-first : (word sep rest : List ℕ) → 0 < length word → NoCharPasses is_ascii_whitespace word → IsAsciiSeparator sep rest → words_of (word ++ (sep ++ rest)) ≡ word ∷ words_of rest
words_of-first word [] rest some none (white, short, last) =
    let end : rest ≡ [] = nil_from_length rest (last refl) in
    rw (end, append-nil) (ap (filter (λ w. not (length w == 0))) (slice_split_none is_ascii_whitespace word (no_white word none)) ∙ words_of-part word [] some)
words_of-first word (b ∷ []) rest some none (white, short, last) =
    ap (filter (λ w. not (length w == 0))) (slice_split_at is_ascii_whitespace word b rest (no_white word none) (recursion_from_All (λ b. is_ascii_whitespace b ≡ true) (b ∷ []) white).0)
    ∙ words_of-part word (slice_split is_ascii_whitespace rest) some
words_of-first word (b ∷ c ∷ sep) rest some none (white, short, last) = absurd (omega arith)

-- a step over the words of a text: its first word, and the words of what is left
pub words_step : (s t : _) (word : Bor (List ℕ)) → split_ascii_whitespace_steps s (Some word) t → words_of (split_ascii_whitespace_text s) ≡ word.now ∷ words_of (split_ascii_whitespace_text t)
words_step s t word (some, none, short, (gap, sep, text, white, last)) =
    ap words_of text ∙ words_of-skip_all gap _ (recursion_from_All (λ b. is_ascii_whitespace b ≡ true) gap white) ∙ words_of-first word.now sep _ some none last

pub words_end : (s t : _) → split_ascii_whitespace_steps s None t → words_of (split_ascii_whitespace_text s) ≡ []
words_end s t (white, none) =
    ap words_of (sym (append-nil (split_ascii_whitespace_text s))) ∙ words_of-skip_all (split_ascii_whitespace_text s) [] (recursion_from_All (λ b. is_ascii_whitespace b ≡ true) _ white)
