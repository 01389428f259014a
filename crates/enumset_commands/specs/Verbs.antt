-- The commands by their names.
--     of_one, of_two, of_three, of_words      the command of one, two or three fields, or of a register and words
--     assignments, queries, changes, word_verbs      tables from names to what fields write: of commands that reply `ok`,
--         that change nothing, that change a register and reply more, and that have words
--     own_verbs      the table of the commands that only mixed sets have
--     written      the command that fields write after a name, by a table of names
use Rattle.std.specs.Prelude.{ℕ, List, [], ◌∷◌, codes, Option, option_map, option_and_then}
use Rattle.std.specs.Map.{lookup}
use Rattle.std.specs.Str.{bytes_eq}
use Rattle.enumset_commands.specs.Fields.{register, bit, width, value, count, one, two, three, register_and_words}
use Rattle.enumset_commands.specs.declared.command.Command.{Command}
use Rattle.enumset_commands.specs.declared.command.Command.TheVariants.{New, All, Clear, Len, IsEmpty, Next, NextBack, Left, Complement, InsertAll, RemoveAll, Disjoint, Superset, Subset, Equal, Compare, Iter, Union, Intersection, Difference, SymmetricDifference, Only, Insert, Remove, Contains, Number, NumberCut, FromNumber, FromNumberCut, Words, WordsCut, FromWords, FromWordsCut}
use Rattle.enumset_commands.specs.declared.mixed_command.MixedCommand.{MixedCommand}
use Rattle.enumset_commands.specs.declared.mixed_command.MixedCommand.TheVariants.{HasBit, InsertBit, RemoveBit, FullComplement, ValidLen, Unknown, AsEnumset, Truncate}

abbrev pub of_one : {C : Type 0} → (ℕ → C) → (List ℕ → Option ℕ) → List (List ℕ) → Option C
of_one command first fields = option_map command (one first fields)

abbrev pub of_two : {C : Type 0} → (ℕ → ℕ → C) → (List ℕ → Option ℕ) → (List ℕ → Option ℕ) → List (List ℕ) → Option C
of_two command first second fields = option_map (λ p. command p.0 p.1) (two first second fields)

abbrev pub of_three : {C : Type 0} → (ℕ → ℕ → ℕ → C) → (List ℕ → Option ℕ) → (List ℕ → Option ℕ) → (List ℕ → Option ℕ) → List (List ℕ) → Option C
of_three command first second third fields = option_map (λ p. command p.0 p.1 p.2) (three first second third fields)

abbrev pub of_words : (ℕ → List ℕ → Command) → List (List ℕ) → Option Command
of_words command fields = option_map (λ p. command p.0 p.1) (register_and_words fields)

abbrev pub assignments : List (List ℕ × (List (List ℕ) → Option Command))
assignments =
    (codes "new", of_one New register)
    ∷ (codes "all", of_one All register)
    ∷ (codes "only", of_two Only register bit)
    ∷ (codes "clear", of_one Clear register)
    ∷ (codes "union", of_three Union register register register)
    ∷ (codes "intersection", of_three Intersection register register register)
    ∷ (codes "difference", of_three Difference register register register)
    ∷ (codes "symmetric", of_three SymmetricDifference register register register)
    ∷ (codes "complement", of_two Complement register register)
    ∷ (codes "insert_all", of_two InsertAll register register)
    ∷ (codes "remove_all", of_two RemoveAll register register)
    ∷ (codes "from_number_cut", of_three FromNumberCut register width value)
    ∷ (codes "iter", of_two Iter register register)
    ∷ []

abbrev pub queries : List (List ℕ × (List (List ℕ) → Option Command))
queries =
    (codes "contains", of_two Contains register bit)
    ∷ (codes "len", of_one Len register)
    ∷ (codes "empty", of_one IsEmpty register)
    ∷ (codes "disjoint", of_two Disjoint register register)
    ∷ (codes "superset", of_two Superset register register)
    ∷ (codes "subset", of_two Subset register register)
    ∷ (codes "equal", of_two Equal register register)
    ∷ (codes "compare", of_two Compare register register)
    ∷ (codes "number", of_two Number register width)
    ∷ (codes "number_cut", of_two NumberCut register width)
    ∷ (codes "words", of_two Words register count)
    ∷ (codes "words_cut", of_two WordsCut register count)
    ∷ (codes "left", of_one Left register)
    ∷ []

abbrev pub changes : List (List ℕ × (List (List ℕ) → Option Command))
changes =
    (codes "insert", of_two Insert register bit)
    ∷ (codes "remove", of_two Remove register bit)
    ∷ (codes "from_number", of_three FromNumber register width value)
    ∷ (codes "next", of_one Next register)
    ∷ (codes "next_back", of_one NextBack register)
    ∷ []

abbrev pub word_verbs : List (List ℕ × (List (List ℕ) → Option Command))
word_verbs =
    (codes "from_words", of_words FromWords)
    ∷ (codes "from_words_cut", of_words FromWordsCut)
    ∷ []

abbrev pub own_verbs : List (List ℕ × (List (List ℕ) → Option MixedCommand))
own_verbs =
    (codes "has_bit", of_two HasBit register bit)
    ∷ (codes "insert_bit", of_two InsertBit register bit)
    ∷ (codes "remove_bit", of_two RemoveBit register bit)
    ∷ (codes "full_complement", of_two FullComplement register register)
    ∷ (codes "valid_len", of_one ValidLen register)
    ∷ (codes "unknown", of_one Unknown register)
    ∷ (codes "as_enumset", of_two AsEnumset register register)
    ∷ (codes "truncate", of_two Truncate register register)
    ∷ []

abbrev pub written : {C : Type 0} → List (List ℕ × (List (List ℕ) → Option C)) → List ℕ → List (List ℕ) → Option C
written verbs name fields = option_and_then (λ verb. verb fields) (lookup (bytes_eq name) verbs)
