-- The text of an array of words, word by word.
use Rattle.std.proofs.Common.{◌≡◌, ◌<◌, ◌^◌, ℕ, List, [], ◌∷◌, ◌++◌, Some, map, decimal, refl, sym, ap, subst, ◌+◌, ◌∙◌, append_assoc, append-nil, arith, Bool, true, false, nat_lt, lt-ltb, IsAscii}
use Rattle.std.proofs.lemmas.Fmt.{IsAscii-decimal}
use Rattle.std.proofs.lemmas.Str.{IsAscii-append}
use Rattle.std.proofs.lemmas.Str.Ascii.{IsAscii-nil, IsAscii-cons}
use Rattle.std.specs.Prelude.{⊤}
use Rattle.serde_json.specs.Read.{read}
use Rattle.serde_json.specs.View.{items_of}
use Rattle.serde_json.specs.Written.{compact_text, items_text, comma_if}
use Rattle.enumset_repr.specs.BitSet.{BitSet}
use Rattle.enumset_repr.specs.Laws.WordLists.{words_none, words_more, word_small}
use Rattle.enumset_repr.specs.Words.{word, words}
use Rattle.enumset.proofs.JsonDigits.{Ends}
use Rattle.enumset.proofs.JsonNumbers.{next_number, last_number}
use Rattle.enumset.proofs.JsonSteps.{empty_list}
use Rattle.enumset.specs.Json.{number_value, words_value}

-- ---- the words of a set

module _ (s : BitSet) where
  -- the bytes are the text of the first words, whatever words come after them
  abbrev pub AreWords : List ℕ → ℕ → Type 0
  AreWords bytes i = ((more : List ℕ) → bytes ++ items_text (nat_lt 0 i) (items_of (map number_value more)) ≡ compact_text (words_value (words s i ++ more))) × IsAscii bytes

  pub none_written : (bytes : List ℕ) → bytes ≡ 91 ∷ [] → AreWords bytes 0
  none_written bytes is = (
    λ more. (λ j. is j ++ items_text false (items_of (map number_value more))) ∙ ap (λ ws. compact_text (words_value (ws ++ more))) (sym (words_none s)),
    subst IsAscii (sym is) (IsAscii-cons 91 [] (omega arith) IsAscii-nil),
  )

  pub one_written : (old new : List ℕ) (i n : ℕ) → AreWords old i → n ≡ word s i → new ≡ old ++ (comma_if (nat_lt 0 i) ++ decimal n) → AreWords new (i + 1)
  one_written old new i n so_far is put = (
    λ more.
        let later : nat_lt 0 (i + 1) ≡ true = lt-ltb 0 (i + 1) (omega arith) in
        (λ j. put j ++ items_text (later j) (items_of (map number_value more)))
        ∙ append_assoc old (comma_if (nat_lt 0 i) ++ decimal n) (items_text true (items_of (map number_value more)))
        ∙ ap (λ l. old ++ l) (append_assoc (comma_if (nat_lt 0 i)) (decimal n) (items_text true (items_of (map number_value more))))
        ∙ so_far.0 (n ∷ more)
        ∙ ap (λ ws. compact_text (words_value ws)) (sym (append_assoc (words s i) (n ∷ []) more) ∙ ap (λ ws. ws ++ more) ((λ j. words s i ++ is j ∷ []) ∙ sym (words_more s i))),
    subst IsAscii (sym put) (IsAscii-append old _ so_far.1 (IsAscii-append _ (decimal n) (comma (nat_lt 0 i)) (IsAscii-decimal n (subst (λ n. n < 2 ^ 64) (sym is) (word_small s i))))),
  )
    where
      comma : (later : Bool) → IsAscii (comma_if later)
      comma true = IsAscii-cons 44 [] (omega arith) IsAscii-nil
      comma false = IsAscii-nil

  pub all_written : (old new : List ℕ) (i n : ℕ) → AreWords old i → i ≡ n → new ≡ old ++ 93 ∷ [] → (new ≡ compact_text (words_value (words s n))) × IsAscii new
  all_written old new i n so_far all put = (
    put ∙ so_far.0 [] ∙ ap (λ ws. compact_text (words_value ws)) (append-nil (words s i) ∙ ap (λ i. words s i) all),
    subst IsAscii (sym put) (IsAscii-append old _ so_far.1 (IsAscii-cons 93 [] (omega arith) IsAscii-nil)),
  )

-- ---- it is read as the words

abbrev AreSmall : List ℕ → Type 0
AreSmall [] = ⊤
AreSmall (n ∷ ns) = (n < 2 ^ 64) × AreSmall ns

items_end : (ns : List ℕ) → Ends (items_text true (items_of (map number_value ns)))
items_end [] = (refl, refl, refl, refl, refl)
items_end (n ∷ ns) = (refl, refl, refl, refl, refl)

array_reads : (ns : List ℕ) → AreSmall ns → read (compact_text (words_value ns)) ≡ Some (words_value ns)
array_reads [] small = empty_list
array_reads (n ∷ []) small = last_number n _ _ small.0 refl [] ([], tt, refl) tt
array_reads (n ∷ m ∷ ns) small =
    let rest = items_text true (items_of (map number_value ns)) in
    next_number n _ _ small.0 refl _ [] (decimal m ++ rest) (items_of (map number_value (m ∷ ns))) ([], tt, refl) tt refl (m, rest, small.1.0, items_end ns, refl) (array_reads (m ∷ ns) small.1)

are_small : (s : BitSet) (ns : List ℕ) → AreSmall (map (word s) ns)
are_small s [] = tt
are_small s (n ∷ ns) = (word_small s n, are_small s ns)

pub words_reads : (s : BitSet) (n : ℕ) → read (compact_text (words_value (words s n))) ≡ Some (words_value (words s n))
unfolding words
words_reads s n = array_reads (words s n) (are_small s _)
