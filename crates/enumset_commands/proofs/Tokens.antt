-- How the tokens of a line go on after the first part between spaces.
use Rattle.std.proofs.Common.{◌≡◌, ◌==◌, ℕ, zero, suc, ◌+◌, ◌-◌, ◌*◌, ◌^◌, ◌<◌, ◌≤◌, true, false, List, [], ◌∷◌, length, get_or, take, drop, Option, Some, None, refl, sym, ap, ◌∙◌, below_more, inl, inr, arith, position, length-take, get_or-take, take_all, ne_eqb, eq-eqb, true≢false}
use Rattle.std.specs.List.{slice_split, onto_first}
use Rattle.std.specs.Char.{is_ascii_digit}
use Rattle.std.proofs.lemmas.List.{drop_all}
use Rattle.std.proofs.lemmas.List.Quantifiers.{position-Some}
use Rattle.std.proofs.lemmas.List.Splits.{length-slice_split, slice_split-cons_no}
use Rattle.std.proofs.lemmas.Bool.{cases_lt}
use Rattle.std.proofs.lemmas.Bool.Decides.{nat_tests}
use Rattle.enumset_commands.specs.Lines.{tokens_of}
use Rattle.enumset_commands.specs.Fields.{value, word, Takes, BeginsWithNone}
use Rattle.enumset_commands.proofs.Fields.{value_after, value_after-start, value_after-digit, value_after-other, value_after-end, word-fits, word-none, word-large}
use Rattle.enumset_commands.proofs.Parts.{NoneBelow, position-at, position-none, split-at, split-past}

pub tokens_of-skip : (s part rest : List ℕ) → slice_split (λ b. b == 32) s ≡ part ∷ slice_split (λ b. b == 32) rest → (length part == 0) ≡ true → tokens_of s ≡ tokens_of rest
tokens_of-skip s part rest cut empty = rw (cut, empty) refl

tokens_of-cut : (s part rest : List ℕ) → slice_split (λ b. b == 32) s ≡ part ∷ slice_split (λ b. b == 32) rest → (length part == 0) ≡ false → tokens_of s ≡ part ∷ tokens_of rest
tokens_of-cut s part rest cut full = rw (cut, full) refl

pub tokens_of-none : (s : List ℕ) → slice_split (λ b. b == 32) s ≡ s ∷ [] → (length s == 0) ≡ true → tokens_of s ≡ []
tokens_of-none s last empty = rw (last, empty) refl

pub tokens_of-last : (s : List ℕ) → slice_split (λ b. b == 32) s ≡ s ∷ [] → (length s == 0) ≡ false → tokens_of s ≡ s ∷ []
tokens_of-last s last full = rw (last, full) refl

-- the first part is empty only if the text begins with a space
first_part : (s part : List ℕ) (parts : List (List ℕ)) → slice_split (λ b. b == 32) s ≡ part ∷ parts → 0 < length parts → (get_or s 0 0 == 32) ≡ false → (length part == 0) ≡ false
first_part [] part parts cut more other = absurd (omega (arith, ap length cut))
first_part (x ∷ s) part parts cut more other =
    elim (slice_split (λ b. b == 32) s) as (λ later. onto_first x later ≡ part ∷ parts → (length part == 0) ≡ false) [
      | [] ↦ λ e. let same : part ≡ x ∷ [] = cc in ne_eqb (length part) 0 (λ z. omega (arith, ap length same))
      | (p ∷ ps) ↦ λ e. let same : part ≡ x ∷ p = cc in ne_eqb (length part) 0 (λ z. omega (arith, ap length same))
    ] (sym (slice_split-cons_no (λ b. b == 32) x s other) ∙ cut)

pub tokens_of-first : (s part rest : List ℕ) → slice_split (λ b. b == 32) s ≡ part ∷ slice_split (λ b. b == 32) rest → (get_or s 0 0 == 32) ≡ false → tokens_of s ≡ part ∷ tokens_of rest
tokens_of-first s part rest cut other =
    tokens_of-cut s part rest cut (first_part s part (slice_split (λ b. b == 32) rest) cut (omega (arith, length-slice_split (λ b. b == 32) rest)) other)

-- ---- whether there is a token

tokens_at : (o : Option ℕ) (s : List ℕ) → position (λ b. b == 32) s ≡ o → 0 < length s → (get_or s 0 0 == 32) ≡ false → (length (tokens_of s) == 0) ≡ false
tokens_at None s h more other =
    let last = split-past (λ b. b == 32) s h in
    let one = tokens_of-last s last (ne_eqb (length s) 0 (λ z. omega arith)) in rw one refl
tokens_at (Some zero) s h more other =
    absurd (true≢false (sym (position-Some (λ b. b == 32) s 0 0 h).1 ∙ other))
tokens_at (Some (suc i)) s h more other =
    let found = position-Some (λ b. b == 32) s (suc i) 0 h in
    let full = ne_eqb (length (take (suc i) s)) 0 (λ z. omega (arith, found.0, length-take (suc i) s)) in
    rw (tokens_of-cut s (take (suc i) s) (drop (suc i + 1) s) (split-at (λ b. b == 32) s (suc i) h) full) (ne_eqb _ 0 (λ z. omega arith))

-- a text that does not begin with a space has no token exactly if it is empty
pub tokens_of-ends : (s : List ℕ) → (get_or s 0 0 == 32) ≡ false → (length (tokens_of s) == 0) ≡ (length s == 0)
tokens_of-ends [] other = refl
tokens_of-ends (x ∷ s) other =
    tokens_at (position (λ b. b == 32) (x ∷ s)) (x ∷ s) refl (omega arith) other ∙ sym (ne_eqb (length (x ∷ s)) 0 (λ z. omega arith))

pub tokens_of-space : (s : List ℕ) → tokens_of (32 ∷ s) ≡ tokens_of s
tokens_of-space s = tokens_of-skip (32 ∷ s) [] s refl refl

pub ruleset space_steps = (tokens_of-ends, tokens_of-space)

-- ---- the number that the first token writes, digit by digit

-- the first i bytes are digits, and n is their number: what any token writes that begins with them goes on from n
pub record DigitsSoFar (s : List ℕ) (i n : ℕ) : Type 0 where
  pub apart : NoneBelow (λ b. b == 32) s i
  pub goes_on : (e : ℕ) → i ≤ e → 0 < e → e ≤ length s → value_after n (drop i (take e s)) ≡ value (take e s)

pub no_digits : (s : List ℕ) → DigitsSoFar s 0 0
no_digits s = record {
  apart = λ k l. absurd (omega arith);
  goes_on = λ e from more within. value_after-start (take e s) (ne_eqb (length (take e s)) 0 (λ z. omega (arith, length-take e s)));
}

pub one_digit_more : (s : List ℕ) (i n m : ℕ) → i < length s → is_ascii_digit (get_or s i 0) ≡ true → m ≡ n * 10 + (get_or s i 0 - 48) → DigitsSoFar s i n → DigitsSoFar s (i + 1) m
one_digit_more s i n m l d sum h = record {
  apart = below_more _ _ h.apart (grind (arith, nat_tests));
  goes_on = λ e from more within.
      let same : get_or (take e s) i 0 ≡ get_or s i 0 = get_or-take e s i 0 (omega arith) in
      let long : length (take e s) ≡ e = omega (arith, length-take e s) in
      let next = value_after-digit (take e s) n i (omega arith) (ap is_ascii_digit same ∙ d) in
      ap (λ k. value_after k (drop (i + 1) (take e s))) (sum ∙ ap (λ c. n * 10 + (c - 48)) (sym same)) ∙ sym next ∙ h.goes_on e (omega arith) more within;
}

digits_word : (s : List ℕ) (i n : ℕ) → 0 < i → i ≤ length s → n < 2 ^ 64 → DigitsSoFar s i n → word (take i s) ≡ Some n
digits_word s i n more within fits h =
    word-fits (take i s) n (sym (h.goes_on i (omega arith) more within) ∙ value_after-end (take i s) n i (omega (arith, length-take i s)) (omega arith)) fits

-- a space after digits ends the first token
number_before_space : (s : List ℕ) (i n : ℕ) → 0 < i → i < length s → get_or s i 0 ≡ 32 → n < 2 ^ 64 → DigitsSoFar s i n → Takes word (tokens_of s) (Some n) (tokens_of (drop (i + 1) s))
number_before_space s i n more l space fits h =
    let cut = split-at (λ b. b == 32) s i (position-at (λ b. b == 32) s i l h.apart (eq-eqb (get_or s i 0) 32 space)) in
    (take i s, tokens_of-cut s (take i s) (drop (i + 1) s) cut (ne_eqb (length (take i s)) 0 (λ z. omega (arith, length-take i s))), digits_word s i n more (omega arith) fits h)

pub number_at_space : (s : List ℕ) (i n : ℕ) → (get_or s 0 0 == 32) ≡ false → i < length s → get_or s i 0 ≡ 32 → n < 2 ^ 64 → DigitsSoFar s i n → Takes word (tokens_of s) (Some n) (tokens_of (drop (i + 1) s))
number_at_space s zero n other l space fits h = absurd (true≢false (sym (eq-eqb (get_or s 0 0) 32 space) ∙ other))
number_at_space s (suc i) n other l space fits h = number_before_space s (suc i) n (omega arith) l space fits h

-- and so does the end of the text
pub number_at_end : (s : List ℕ) (i n : ℕ) → 0 < length s → i ≡ length s → n < 2 ^ 64 → DigitsSoFar s i n → Takes word (tokens_of s) (Some n) (tokens_of (drop (length s) s))
number_at_end s i n more all fits h =
    let none : NoneBelow (λ b. b == 32) s (length s) = λ k l. h.apart k (omega arith) in
    let last = split-past (λ b. b == 32) s (position-none (λ b. b == 32) s none) in
    let whole : take i s ≡ s = take_all i s (omega arith) in
    let left : tokens_of (drop (length s) s) ≡ [] = ap tokens_of (drop_all (length s) s (omega arith)) in
    (s, rw left (tokens_of-last s last (ne_eqb (length s) 0 (λ z. omega arith))), ap word (sym whole) ∙ digits_word s i n (omega arith) (omega arith) fits h)

-- ---- a first token that writes no number

-- no word begins with the first i + 1 bytes of the first token, so this token is not a word
no_word_at : (o : Option ℕ) (s : List ℕ) (i : ℕ) → position (λ b. b == 32) s ≡ o → NoneBelow (λ b. b == 32) s (i + 1) → i < length s → ((e : ℕ) → i < e → e ≤ length s → word (take e s) ≡ None) → BeginsWithNone word (tokens_of s)
no_word_at None s i h apart l none =
    let last = tokens_of-last s (split-past (λ b. b == 32) s h) (ne_eqb (length s) 0 (λ z. omega arith)) in
    rw last (ap word (sym (take_all (length s) s (omega arith))) ∙ none (length s) l (omega arith))
no_word_at (Some e) s i h apart l none =
    let found = position-Some (λ b. b == 32) s e 0 h in
    elim (cases_lt e (i + 1)) [
      | inl below ↦ absurd (true≢false (sym found.1 ∙ apart e below))
      | inr above ↦
          rw (tokens_of-cut s (take e s) (drop (e + 1) s) (split-at (λ b. b == 32) s e h) (ne_eqb (length (take e s)) 0 (λ z. omega (arith, found.0, length-take e s))))
          (none e (omega arith) (omega (arith, found.0)))
    ]

pub other_byte : (s : List ℕ) (i n : ℕ) → i < length s → (get_or s i 0 == 32) ≡ false → is_ascii_digit (get_or s i 0) ≡ false → DigitsSoFar s i n → BeginsWithNone word (tokens_of s)
other_byte s i n l apart other h =
    no_word_at (position (λ b. b == 32) s) s i refl (below_more _ _ h.apart apart) l (λ e from within.
    let same : get_or (take e s) i 0 ≡ get_or s i 0 = get_or-take e s i 0 (omega arith) in
    let none = value_after-other (take e s) n i (omega (arith, length-take e s)) (ap is_ascii_digit same ∙ other) in
    word-none (take e s) (sym (h.goes_on e (omega arith) (omega arith) within) ∙ none))

pub too_large : (s : List ℕ) (i n : ℕ) → i < length s → is_ascii_digit (get_or s i 0) ≡ true → 2 ^ 64 ≤ n * 10 + (get_or s i 0 - 48) → DigitsSoFar s i n → BeginsWithNone word (tokens_of s)
too_large s i n l d large h =
    let more = one_digit_more s i n (n * 10 + (get_or s i 0 - 48)) l d refl h in
    no_word_at (position (λ b. b == 32) s) s i refl more.apart l (λ e from within.
    word-large (take e s) (drop (i + 1) (take e s)) (n * 10 + (get_or s i 0 - 48)) (sym (more.goes_on e (omega arith) (omega arith) within)) large)

pub no_token : (s : List ℕ) → (length s == 0) ≡ true → BeginsWithNone word (tokens_of s)
no_token [] empty = tt
no_token (x ∷ s) empty = absurd (grind (arith, nat_tests))

pub ruleset number_steps = (no_digits, one_digit_more, number_at_space, number_at_end, other_byte, no_token)

pub ruleset token_steps = (tokens_of-first, tokens_of-none, tokens_of-last)
