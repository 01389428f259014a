-- What the readers find in plain texts, token by token.
use Rattle.std.proofs.Common.{◌≡◌, ◌<◌, ◌^◌, ℕ, true, false, List, [], ◌∷◌, ◌++◌, length, length-append, map, decimal, refl, sym, ap, subst, ◌∙◌, ◌⊎◌, inl, inr, arith, true≢false, append_assoc, ◌==◌, eq-eqb}
use Rattle.std.proofs.lemmas.Bool.Decides.{nat_tests}
use Rattle.std.proofs.lemmas.Fmt.{decimal_nonempty}
use Rattle.std.specs.Char.{is_ascii_digit}
use Rattle.std.specs.List.{AllByRecursion}
use Rattle.enumset.proofs.JsonScans.{parted}
use Rattle.enumset.proofs.NumberScans.{IsDigit, decimal_digits}
use Rattle.enumset.specs.JsonPlain.{IsPlain, is_space, AreSpaces, Begins, IsSpaced, later_tokens, word_tokens, name_tokens, IsPlainNumber, IsPlainWords, IsPlainList, Passed}

-- ---- spaces, and what follows them

abbrev pub IsSpace : ℕ → Type 0
IsSpace x = is_space x ≡ true

pub no_space : (x : ℕ) (rest : List ℕ) → is_space x ≡ false → Begins IsSpace (x ∷ rest) → ⊥
no_space x rest none one = true≢false (sym one ∙ none)

-- a text has one longest run of spaces at its front
pub after_spaces : (g h xs ys : List ℕ) → AreSpaces g → AreSpaces h → (Begins IsSpace xs → ⊥) → (Begins IsSpace ys → ⊥) → g ++ xs ≡ h ++ ys → ys ≡ xs
after_spaces g h xs ys gs hs none none' e = (parted IsSpace g h xs ys gs hs none none' e).1

-- a text has one first byte that is not a space
pub passed_once : (text : List ℕ) (x y : ℕ) (xs ys : List ℕ) → is_space x ≡ false → is_space y ≡ false → Passed text x xs → Passed text y ys → (x ≡ y) × (xs ≡ ys)
passed_once text x y xs ys none none' (g, gs, is) (h, hs, is') =
    let same : y ∷ ys ≡ x ∷ xs = after_spaces g h (x ∷ xs) (y ∷ ys) gs hs (no_space x xs none) (no_space y ys none') (sym is ∙ is') in
    (cc, cc)

pub passed_less : (text : List ℕ) (x : ℕ) (rest : List ℕ) → Passed text x rest → length rest < length text
passed_less text x rest (g, gs, is) = omega (arith, ap length is, length-append g (x ∷ rest))

-- ---- what follows an item

-- only a bracket is left
abbrev pub Closes : ℕ → List ℕ → Type 0
Closes end rest = (after : List ℕ) × Passed rest end after × AreSpaces after

-- a byte is next, and then what P says
abbrev pub Next : ℕ → (List ℕ → Type 0) → List ℕ → Type 0
Next x P rest = (after : List ℕ) × Passed rest x after × P after

module _ (P : List ℕ → Type 0) where
  -- where the byte x is next, a scanner of x finds it, and P is true of what follows
  pub next : (x : ℕ) (text bytes rest : List ℕ) → bytes ≡ text → Next x P text → ((after : List ℕ) → Passed bytes x after → rest ≡ after) → P rest
  next x text bytes rest same (after, passed, more) found =
      subst P (sym (found after (subst (λ t. Passed t x after) (sym same) passed))) more

  pub no_next : (x : ℕ) (text bytes : List ℕ) → bytes ≡ text → Next x P text → ((after : List ℕ) → Passed bytes x after → ⊥) → ⊥
  no_next x text bytes same (after, passed, more) none = none after (subst (λ t. Passed t x after) (sym same) passed)

  pub closes_here : (end : ℕ) (rest after : List ℕ) → is_space end ≡ false → (P rest → Passed rest end after → ⊥) → Closes end rest ⊎ P rest → Passed rest end after → AreSpaces after
  closes_here end rest after none other (inl (e, passed, spaced)) here = subst AreSpaces (passed_once rest end end e after none none passed here).1 spaced
  closes_here end rest after none other (inr more) here = absurd (other more here)

  pub goes_on_here : (end : ℕ) (rest : List ℕ) → Closes end rest ⊎ P rest → ((after : List ℕ) → Passed rest end after → ⊥) → P rest
  goes_on_here end rest (inl (e, passed, spaced)) none = absurd (none e passed)
  goes_on_here end rest (inr more) none = more

  pub next_or_end : (x end : ℕ) (rest after : List ℕ) → is_space x ≡ false → is_space end ≡ false → (x == end) ≡ false → Next x P rest → Passed rest end after → ⊥
  next_or_end x end rest after none none' differs (e, passed, more) here =
      let same = (passed_once rest x end e after none none' passed here).0 in
      true≢false (sym (eq-eqb x end same) ∙ differs)

-- ---- numbers

-- the number that is next, and what follows it
abbrev pub IsNext : ℕ → List ℕ → List ℕ → Type 0
IsNext n left rest = (g : List ℕ) × AreSpaces g × (left ≡ g ++ (decimal n ++ rest))

digit_no_space : (x : ℕ) → IsDigit x → is_space x ≡ false
digit_no_space x digit = grind (arith, nat_tests, digit)

begins_number : (n : ℕ) (rest : List ℕ) → n < 2 ^ 64 → (x : ℕ) × (xs : List ℕ) × IsDigit x × (decimal n ++ rest ≡ x ∷ xs)
begins_number n rest fits = at (decimal n) (decimal_nonempty n fits) (decimal_digits n fits)
  where
    at : (s : List ℕ) → 0 < length s → AllByRecursion IsDigit s → (x : ℕ) × (xs : List ℕ) × IsDigit x × (s ++ rest ≡ x ∷ xs)
    at [] some all = absurd (omega arith)
    at (x ∷ s) some all = (x, s ++ rest, all.0, refl)

number_no_space : (n : ℕ) (rest : List ℕ) → n < 2 ^ 64 → Begins IsSpace (decimal n ++ rest) → ⊥
number_no_space n rest fits one =
    let (x, xs, digit, is) = begins_number n rest fits in
    no_space x xs (digit_no_space x digit) (subst (Begins IsSpace) is one)

-- the digits of the next number are what follows the spaces
pub number_here : (n : ℕ) (left rest g digits : List ℕ) → n < 2 ^ 64 → IsNext n left rest → AreSpaces g → (Begins IsSpace digits → ⊥) → left ≡ g ++ digits → digits ≡ decimal n ++ rest
number_here n left rest g digits fits (h, hs, is) gs none split = after_spaces h g (decimal n ++ rest) digits hs gs (number_no_space n rest fits) none (sym is ∙ split)

pub number_or_byte : (n x : ℕ) (left rest after : List ℕ) → n < 2 ^ 64 → is_space x ≡ false → is_ascii_digit x ≡ false → IsNext n left rest → Passed left x after → ⊥
number_or_byte n x left rest after fits none other (h, hs, is) (g, gs, is') =
    let (y, ys, digit, first) = begins_number n rest fits in
    let same : x ∷ after ≡ y ∷ ys = after_spaces h g (decimal n ++ rest) (x ∷ after) hs gs (number_no_space n rest fits) (no_space x after none) (sym is ∙ is') ∙ first in
    let byte : x ≡ y = cc in
    true≢false (sym (subst IsDigit (sym byte) digit) ∙ other)

pub next_some : (n : ℕ) (left rest : List ℕ) → n < 2 ^ 64 → IsNext n left rest → 0 < length left
next_some n left rest fits (g, gs, is) = omega (arith, ap length is, length-append g (decimal n ++ rest), length-append (decimal n) rest, decimal_nonempty n fits)

-- no digit follows a number
pub no_digit : (x : ℕ) (rest after : List ℕ) → is_ascii_digit x ≡ false → Passed rest x after → Begins IsDigit rest → ⊥
no_digit x rest after other (g, gs, is) one = at g gs (subst (Begins IsDigit) is one)
  where
    at : (g : List ℕ) → AreSpaces g → Begins IsDigit (g ++ x ∷ after) → ⊥
    at [] gs one = true≢false (sym one ∙ other)
    at (y ∷ g) gs one = true≢false (sym gs.0 ∙ digit_no_space y one)

no_digit_in_spaces : (g : List ℕ) → AreSpaces g → Begins IsDigit g → ⊥
no_digit_in_spaces (y ∷ g) gs one = true≢false (sym gs.0 ∙ digit_no_space y one)
no_digit_in_spaces [] gs one = one

-- a number, and then a comma with more numbers or the closing bracket
abbrev pub WordsLeft : List ℕ → Type 0
WordsLeft left = (n : ℕ) × (ns : List ℕ) × (n < 2 ^ 64) × AllByRecursion (λ n. n < 2 ^ 64) ns × IsSpaced (decimal n ∷ later_tokens 93 (map word_tokens ns)) left

pub plain_number : (text : List ℕ) → IsPlainNumber text → (n : ℕ) × (rest : List ℕ) × (n < 2 ^ 64) × IsNext n text rest × (Begins IsDigit rest → ⊥) × AreSpaces rest
plain_number text (n, fits, (g, rest, gs, is, hs)) = (n, rest, fits, (g, gs, is), no_digit_in_spaces rest hs, hs)

pub plain_words : (text : List ℕ) → IsPlainWords text → (rest : List ℕ) × Passed text 91 rest × (Closes 93 rest ⊎ WordsLeft rest)
plain_words text ([], all, (g, rest, gs, is, (h, after, hs, end, spaced))) = (rest, (g, gs, is), inl (after, (h, hs, end), spaced))
plain_words text (n ∷ ns, all, (g, rest, gs, is, more)) = (rest, (g, gs, is), inr (n, ns, all.0, all.1, more))

pub words_next : (left : List ℕ) → WordsLeft left → (n : ℕ) × (rest : List ℕ) × (n < 2 ^ 64) × IsNext n left rest × (Begins IsDigit rest → ⊥) × (Closes 93 rest ⊎ Next 44 WordsLeft rest)
words_next left (n, [], fits, all, (g, rest, gs, is, (h, after, hs, end, spaced))) =
    (n, rest, fits, (g, gs, is), no_digit 93 rest after refl (h, hs, end), inl (after, (h, hs, end), spaced))
words_next left (n, m ∷ ns, fits, all, (g, rest, gs, is, (h, after, hs, comma, more))) =
    (n, rest, fits, (g, gs, is), no_digit 44 rest after refl (h, hs, comma), inr (after, (h, hs, comma), (m, ns, all.0, all.1, more)))

pub word_or_end : (rest after : List ℕ) → WordsLeft rest → Passed rest 93 after → ⊥
word_or_end rest after words here = let (n, later, fits, next, none, more) = words_next rest words in number_or_byte n 93 rest later after fits refl refl next here

pub words_some : (left : List ℕ) → WordsLeft left → 0 < length left
words_some left words = let (n, later, fits, next, none, more) = words_next left words in next_some n left later fits next

module _ (left g digits : List ℕ) (words : WordsLeft left) (gs : AreSpaces g) (none : Begins IsSpace digits → ⊥) (split : left ≡ g ++ digits) where
  pub word_found : (word : ℕ) (rest : List ℕ) → ((n : ℕ) (r : List ℕ) → n < 2 ^ 64 → (Begins IsDigit r → ⊥) → digits ≡ decimal n ++ r → (word ≡ n) × (rest ≡ r)) → Closes 93 rest ⊎ Next 44 WordsLeft rest
  word_found word rest found =
      let (n, later, fits, next, ends, more) = words_next left words in
      subst (λ l. Closes 93 l ⊎ Next 44 WordsLeft l) (sym (found n later fits ends (number_here n left later g digits fits next gs none split)).1) more

  pub no_word_found : ((n : ℕ) (r : List ℕ) → n < 2 ^ 64 → (Begins IsDigit r → ⊥) → digits ≡ decimal n ++ r → ⊥) → ⊥
  no_word_found found =
      let (n, later, fits, next, ends, more) = words_next left words in
      found n later fits ends (number_here n left later g digits fits next gs none split)

-- ---- names

-- a name after its opening quote, and then a comma with more names or the closing bracket
abbrev pub NamesLeft : List ℕ → Type 0
NamesLeft left =
    (name : List ℕ) × (names : List (List ℕ)) × (rest : List ℕ) × IsPlain name × AllByRecursion IsPlain names × (left ≡ name ++ 34 ∷ rest) × IsSpaced (later_tokens 93 (map name_tokens names)) rest

-- a name with its closing quote, and what follows it
pub unquoted : (name rest : List ℕ) → (name ++ 34 ∷ []) ++ rest ≡ name ++ 34 ∷ rest
unquoted name rest = append_assoc name (34 ∷ []) rest

names_from : (name : List ℕ) (names : List (List ℕ)) (rest : List ℕ) → IsPlain name → AllByRecursion IsPlain names → IsSpaced ((34 ∷ (name ++ 34 ∷ [])) ∷ later_tokens 93 (map name_tokens names)) rest → Next 34 NamesLeft rest
names_from name names text plain all (g, rest, gs, is, more) = ((name ++ 34 ∷ []) ++ rest, (g, gs, is), (name, names, rest, plain, all, unquoted name rest, more))

pub plain_list : (text : List ℕ) → IsPlainList text → (rest : List ℕ) × Passed text 91 rest × (Closes 93 rest ⊎ Next 34 NamesLeft rest)
plain_list text ([], all, (g, rest, gs, is, (h, after, hs, end, spaced))) = (rest, (g, gs, is), inl (after, (h, hs, end), spaced))
plain_list text (name ∷ names, all, (g, rest, gs, is, more)) = (rest, (g, gs, is), inr (names_from name names rest all.0 all.1 more))

pub names_next : (left : List ℕ) → NamesLeft left → (name : List ℕ) × (rest : List ℕ) × IsPlain name × (left ≡ name ++ 34 ∷ rest) × (Closes 93 rest ⊎ Next 44 (Next 34 NamesLeft) rest)
names_next left (name, [], rest, plain, all, is, (h, after, hs, end, spaced)) = (name, rest, plain, is, inl (after, (h, hs, end), spaced))
names_next left (name, next ∷ names, rest, plain, all, is, (h, after, hs, comma, more)) = (name, rest, plain, is, inr (after, (h, hs, comma), names_from next names after all.0 all.1 more))

pub names_some : (left : List ℕ) → NamesLeft left → 0 < length left
names_some left (name, names, rest, plain, all, is, more) = omega (arith, ap length is, length-append name (34 ∷ rest))

module _ (left : List ℕ) (names : NamesLeft left) where
  pub name_found : (string rest : List ℕ) → ((s r : List ℕ) → IsPlain s → left ≡ s ++ 34 ∷ r → (string ≡ s) × (rest ≡ r)) → Closes 93 rest ⊎ Next 44 (Next 34 NamesLeft) rest
  name_found string rest found =
      let (name, later, plain, is, more) = names_next left names in
      subst (λ l. Closes 93 l ⊎ Next 44 (Next 34 NamesLeft) l) (sym (found name later plain is).1) more

  pub no_name_found : ((s r : List ℕ) → IsPlain s → left ≡ s ++ 34 ∷ r → ⊥) → ⊥
  no_name_found found = let (name, later, plain, is, more) = names_next left names in found name later plain is
