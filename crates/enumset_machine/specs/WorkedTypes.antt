-- The worked types: their names, what commands are run over, and the answer to an input over each.
--     names      the types by their names
--     worked_of      the type of a name, byte by byte
--     over      what commands are run over: the bits of a type, and for mixed sets the width of their representation
--     answer_by_width      the answer to an input over sets of valid bits, or over mixed sets of a width
--     answer_over      the answer to an input over a worked type
use Rattle.std.specs.Prelude.{ℕ, List, [], ◌∷◌, codes, Option, None, Some, Result}
use Rattle.std.specs.Map.{lookup}
use Rattle.std.specs.Str.{bytes_eq}
use Rattle.enumset_repr.specs.BitSet.{BitSet, from_list}
use Rattle.enumset_machine.specs.declared.worked.Worked.{Worked}
use Rattle.enumset_machine.specs.declared.worked.Worked.TheVariants.{Letters, Four, Sparse, Marks, Wide, PairWords, PairNumber, High, Masks, Single, Nothing, MixedLetters, MixedFour, MixedSparse, MixedMarks, MixedPairWords, MixedPairNumber, MixedHigh, MixedMasks, MixedSingle, MixedNothing}
use Rattle.enumset_commands.specs.declared.text_fault.TextFault.{TextFault}
use Rattle.enumset_machine.specs.Answers.{answer_to, mixed_answer_to}
use Rattle.enumset_worked.specs.Bits.{letters_bits, four_bits, sparse_bits, marks_bits, wide_bits, pair_bits, high_bits, masks_bits, single_bits}

abbrev pub names : List (List ℕ × Worked)
names =
    (codes "letters", Letters)
    ∷ (codes "four", Four)
    ∷ (codes "sparse", Sparse)
    ∷ (codes "marks", Marks)
    ∷ (codes "wide", Wide)
    ∷ (codes "pair-words", PairWords)
    ∷ (codes "pair-number", PairNumber)
    ∷ (codes "high", High)
    ∷ (codes "masks", Masks)
    ∷ (codes "single", Single)
    ∷ (codes "nothing", Nothing)
    ∷ (codes "mixed-letters", MixedLetters)
    ∷ (codes "mixed-four", MixedFour)
    ∷ (codes "mixed-sparse", MixedSparse)
    ∷ (codes "mixed-marks", MixedMarks)
    ∷ (codes "mixed-pair-words", MixedPairWords)
    ∷ (codes "mixed-pair-number", MixedPairNumber)
    ∷ (codes "mixed-high", MixedHigh)
    ∷ (codes "mixed-masks", MixedMasks)
    ∷ (codes "mixed-single", MixedSingle)
    ∷ (codes "mixed-nothing", MixedNothing)
    ∷ []

abbrev pub worked_of : List ℕ → Option Worked
worked_of name = lookup (bytes_eq name) names

abbrev pub over : Worked → List ℕ × Option ℕ
over Letters = (letters_bits, None)
over Four = (four_bits, None)
over Sparse = (sparse_bits, None)
over Marks = (marks_bits, None)
over Wide = (wide_bits, None)
over PairWords = (pair_bits, None)
over PairNumber = (pair_bits, None)
over High = (high_bits, None)
over Masks = (masks_bits, None)
over Single = (single_bits, None)
over Nothing = ([], None)
over MixedLetters = (letters_bits, Some 8)
over MixedFour = (four_bits, Some 8)
over MixedSparse = (sparse_bits, Some 128)
over MixedMarks = (marks_bits, Some 8)
over MixedPairWords = (pair_bits, Some 128)
over MixedPairNumber = (pair_bits, Some 128)
over MixedHigh = (high_bits, Some 8)
over MixedMasks = (masks_bits, Some 8)
over MixedSingle = (single_bits, Some 8)
over MixedNothing = ([], Some 8)

abbrev pub answer_by_width : Option ℕ → BitSet → List ℕ → Result (List ℕ) TextFault
answer_by_width None valid input = answer_to valid input
answer_by_width (Some width) valid input = mixed_answer_to valid width input

abbrev pub answer_over : Worked → List ℕ → Result (List ℕ) TextFault
answer_over worked input = answer_by_width (over worked).1 (from_list (over worked).0) input
