-- What is written of a set is read as that set.
use Rattle.std.proofs.Common.{◌≡◌, ℕ, ◌+◌, ◌*◌, ◌/◌, arith, true, None, Ok, Err, List, [], ◌∷◌, map, unwrap_or, position, refl, ap, ◌∙◌, map-id, lt-ltb}
use Rattle.std.proofs.lemmas.Bool.{cond-true}
use Rattle.std.proofs.lemmas.Iterator.Adapters.{position_from-zero}
use Rattle.std.proofs.lemmas.Simd.{map-map}
use Rattle.std.specs.List.{position_from}
use Rattle.serde_json.specs.Data.{Data}
use Rattle.serde_json.specs.View.{items_of}
use Rattle.enumset_repr.specs.BitSet.{BitSet, is_subset, below}
use Rattle.enumset_repr.specs.Laws.Algebra.{intersection_within}
use Rattle.enumset_repr.specs.Laws.Numbers.{bits_number, number_within}
use Rattle.enumset_repr.specs.Laws.Widths.{low_within, is_subset_wider}
use Rattle.enumset_repr.specs.Number.{number, bits}
use Rattle.enumset_repr.specs.Words.{words, bits_of}
use Rattle.enumset_sets.specs.Laws.Conversions.{words_within}
use Rattle.enumset.specs.Json.{number_value, words_value, number_below, values_of, held_word, is_no_word, held_words, unless_fault, words_in, accepted, and_then, set_of_number, set_of_words, kept_below, mixed_set_of_number, mixed_set_of_words}
use Rattle.enumset.specs.declared.set_json.fault.JsonFault.TheVariants.{NotAWord, OutOfRange, UnknownBits}
use Rattle.enumset.specs.declared.set_json.unknown.Unknown.{Unknown}
use Rattle.enumset.specs.declared.set_json.unknown.Unknown.TheVariants.{Drop, Refuse}

-- a set of valid bits is accepted as it is, and so is a set below the width
pub accepted_within : (s valid : BitSet) (unknown : Unknown) → is_subset s valid ≡ true → accepted valid unknown s ≡ Ok s
accepted_within s valid Drop within = ap Ok (intersection_within s valid within)
accepted_within s valid Refuse within = cond-true (is_subset s valid) (Ok s) (Err UnknownBits) within

kept_within : (s : BitSet) (width : ℕ) (past : Unknown) → is_subset s (below width) ≡ true → kept_below width past s ≡ Ok s
kept_within s width Drop within = ap Ok (low_within s width within)
kept_within s width Refuse within = cond-true (is_subset s (below width)) (Ok s) (Err OutOfRange) within

-- ---- numbers

number_read : (s : BitSet) (k : ℕ) → is_subset s (below k) ≡ true → number_below k (number_value (number s)) ≡ Ok (number s)
number_read s k fits = cond-true _ (Ok (number s)) (Err OutOfRange) (lt-ltb _ _ (number_within s k fits))

pub number_accepted : (s valid : BitSet) (k : ℕ) (unknown : Unknown) → is_subset s (below k) ≡ true → set_of_number valid k unknown (number_value (number s)) ≡ accepted valid unknown s
number_accepted s valid k unknown fits =
    ap (λ r. and_then r (λ n. accepted valid unknown (bits n))) (number_read s k fits) ∙ ap (accepted valid unknown) (bits_number s)

pub mixed_number_and_back : (s : BitSet) (k : ℕ) → is_subset s (below k) ≡ true → mixed_set_of_number k (number_value (number s)) ≡ Ok s
mixed_number_and_back s k fits = ap (λ r. and_then r (λ n. Ok (bits n))) (number_read s k fits) ∙ ap Ok (bits_number s)

-- ---- words

pub values_back : (ds : List Data) → values_of (items_of ds) ≡ ds
values_back [] = refl
values_back (d ∷ ds) = ap (λ es. d ∷ es) (values_back ds)

-- an array of numbers has a word at each place
none_other : (ns : List ℕ) (place : ℕ) → position_from is_no_word place (map number_value ns) ≡ None
none_other [] place = refl
none_other (n ∷ ns) place = none_other ns (place + 1)

pub words_back : (ns : List ℕ) → words_in (words_value ns) ≡ Ok ns
words_back ns =
    let values = map number_value ns in
    let back = map-map (λ value. unwrap_or (held_word value) 0) number_value ns ∙ map-id ns in
    ap (λ ds. unless_fault NotAWord (position is_no_word ds) (Ok (held_words ds))) (values_back values)
    ∙ (λ j. unless_fault NotAWord ((position_from-zero is_no_word values ∙ none_other ns 0) j) (Ok (back j)))

-- words that represent a set are read as that set
pub words_accepted : (s valid : BitSet) (n : ℕ) (unknown : Unknown) → bits_of (words s n) ≡ s → set_of_words valid unknown (words_value (words s n)) ≡ accepted valid unknown s
words_accepted s valid n unknown back =
    ap (λ r. and_then r (λ ns. accepted valid unknown (bits_of ns))) (words_back (words s n)) ∙ ap (accepted valid unknown) back

pub words_kept : (s : BitSet) (width n : ℕ) (past : Unknown) → is_subset s (below width) ≡ true → bits_of (words s n) ≡ s → mixed_set_of_words width past (words_value (words s n)) ≡ Ok s
words_kept s width n past within back =
    ap (λ r. and_then r (λ ns. kept_below width past (bits_of ns))) (words_back (words s n)) ∙ ap (kept_below width past) back ∙ kept_within s width past within

-- as many words as a representation of a width has represent a set below the width
pub all_in_words : (s : BitSet) (n width : ℕ) → n ≡ (width + 63) / 64 → is_subset s (below width) ≡ true → bits_of (words s n) ≡ s
all_in_words s n width is within = words_within s n (is_subset_wider s width (64 * n) (omega (arith, is)) within)
