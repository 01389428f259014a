-- Schedules as texts, and their faults.
--     Trouble      what is wrong at a line, counted from 1: it has no colon, or a word that is not a day
--     words_of      the words of a text, which ASCII white space separates
--     day_names, day_named      the names of the days, in the order of their numbers;  the day of a name
--     and_days      the days so far with the days of words, or the first word that is not a day
--     days_in      the days of a line, which follow its first colon
--     and_schedules      the schedule of a line with the schedules of the later lines, or the first fault
--     schedules_from, schedules_in      the schedules of lines, without empty ones;  of a text
--     IsFaultOf      the fault says what is wrong, or memory ran out
use Rattle.std.specs.Prelude.{◌≡◌, ℕ, ◌+◌, ◌==◌, not, nat_lt, if◌then◌else◌, List, [], ◌∷◌, length, filter, codes, Option, Result, Ok, Err, ⊤}
use Rattle.std.specs.Option.{option_map_or}
use Rattle.std.specs.Char.{is_ascii_whitespace}
use Rattle.std.specs.List.{slice_split, position_or_len, after_first}
use Rattle.std.specs.Str.{byte}
use Rattle.std.specs.Str.Lines.{lines}
use Rattle.enumset.specs.Sets.{BitSet, empty, insert, in_place}
use Rattle.enumset.specs.Names.{names_of, bit_named}
use Rattle.example_weekdays.specs.contracts.weekday.Weekday.{the_type}
use Rattle.example_weekdays.specs.declared.fault.Fault.{Fault}
use Rattle.example_weekdays.specs.declared.fault.Fault.TheVariants.{OutOfMemory, NoName, NoDay}

pub data Trouble : Type 0 where
  no_name : ℕ → Trouble
  no_day : ℕ → List ℕ → Trouble

abbrev pub words_of : List ℕ → List (List ℕ)
words_of text = filter (λ word. not (length word == 0)) (slice_split is_ascii_whitespace text)

abbrev pub day_names : List (List ℕ)
day_names = codes "Monday" ∷ codes "Tuesday" ∷ codes "Wednesday" ∷ codes "Thursday" ∷ codes "Friday" ∷ codes "Saturday" ∷ codes "Sunday" ∷ []

abbrev pub day_named : List ℕ → Option ℕ
day_named word = bit_named (names_of (in_place the_type) day_names) word

abbrev pub and_days : ℕ → BitSet → List (List ℕ) → Result BitSet Trouble
and_days line days [] = Ok days
and_days line days (word ∷ words) =
    option_map_or (λ day. and_days line (insert days day) words) (day_named word) (Err (no_day line word))

abbrev pub days_in : ℕ → List ℕ → Result BitSet Trouble
days_in line text =
    if nat_lt (position_or_len (λ b. b == byte ":") text) (length text)
    then and_days line empty (words_of (after_first (λ b. b == byte ":") text))
    else Err (no_name line)

abbrev pub and_schedules : Result BitSet Trouble → Result (List BitSet) Trouble → Result (List BitSet) Trouble
and_schedules (Ok days) (Ok later) = Ok (days ∷ later)
and_schedules (Ok days) (Err trouble) = Err trouble
and_schedules (Err trouble) later = Err trouble

abbrev pub schedules_from : ℕ → List (List ℕ) → Result (List BitSet) Trouble
schedules_from line [] = Ok []
schedules_from line (text ∷ texts) =
    if length text == 0 then schedules_from (line + 1) texts
    else and_schedules (days_in line text) (schedules_from (line + 1) texts)

abbrev pub schedules_in : List ℕ → Result (List BitSet) Trouble
schedules_in text = schedules_from 1 (lines text)

abbrev pub IsFaultOf : {A : Type 0} → Result A Trouble → Fault → Type 0
IsFaultOf read OutOfMemory = ⊤
IsFaultOf read (NoName line) = read ≡ Err (no_name line)
IsFaultOf read (NoDay line word) = read ≡ Err (no_day line word.now)
