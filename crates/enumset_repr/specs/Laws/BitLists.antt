-- A number or words whose bits are given as a list: one test of the list says which set they represent.
--     bits_listed, words_listed      the set of a number whose bits are listed;  the set of words whose bits are listed
use Rattle.std.proofs.Common.{◌≡◌, ℕ, ◌-◌, true, true≢false, ◌&&◌, ◌||◌, List, [], ◌∷◌, sym, ap, ◌∙◌, arith, nat_le, eqb-true}
use Rattle.std.proofs.lemmas.Bool.{and_parts}
use Rattle.std.proofs.lemmas.Bool.Decides.{nat_tests}
use Rattle.enumset_repr.specs.BitSet.{is_in, contains, from_list}
use Rattle.enumset_repr.specs.Number.{bits, lists_bits}
use Rattle.enumset_repr.specs.Words.{upward_shift, bits_of, in_first_word, in_later_words, lists_words}
use Rattle.enumset_repr.specs.Laws.Members.{same_set, contains_empty, contains_from_list, contains_union}
use Rattle.enumset_repr.specs.Laws.Numbers.{bits_number}
use Rattle.enumset_repr.specs.Laws.Sums.{number_listed}
use Rattle.enumset_repr.specs.Laws.Words.{contains_upward_shift}

-- the set of a number whose bits are listed
pub bits_listed : (bs : List ℕ) (n : ℕ) → lists_bits bs n ≡ true → bits n ≡ from_list bs
bits_listed bs n test =
    ap bits (sym (eqb-true _ n (and_parts _ _ test).1) ∙ sym (number_listed bs (and_parts _ _ test).0)) ∙ bits_number (from_list bs)

-- ---- words

-- a number is in a list exactly if it is in one of its two parts
in_parts : (bs : List ℕ) (q : ℕ) → (is_in q (in_first_word bs) || (nat_le 64 q && is_in (q - 64) (in_later_words bs))) ≡ is_in q bs
in_parts [] q = grind (arith, nat_tests)
in_parts (b ∷ bs) q = grind (arith, nat_tests, in_parts bs q)

pub words_listed : (bs ns : List ℕ) → lists_words bs ns ≡ true → bits_of ns ≡ from_list bs
unfolding bits_of
words_listed [] [] test = same_set _ _ (λ q. contains_empty q ∙ sym (contains_from_list [] q))
words_listed (b ∷ bs) [] test = absurd (true≢false (sym test))
words_listed bs (n ∷ ns) test =
    let first : bits n ≡ from_list (in_first_word bs) = bits_listed (in_first_word bs) n (and_parts _ _ test).0 in
    let later : bits_of ns ≡ from_list (in_later_words bs) = words_listed (in_later_words bs) ns (and_parts _ _ test).1 in
    same_set _ _ (λ q.
    contains_union (bits n) (upward_shift (bits_of ns) 64) q
    ∙ (λ i. contains (first i) q || contains_upward_shift (later i) 64 q i)
    ∙ (λ i. contains_from_list (in_first_word bs) q i || (nat_le 64 q && contains_from_list (in_later_words bs) (q - 64) i))
    ∙ in_parts bs q ∙ sym (contains_from_list bs q))
