-- The texts of frames and of their faults.
--     flags_text      the text of flags, from the text of their set; if no flag is set, the text says so
--     frame_text      the text of a frame: of its flags, and how long its body is
--     frame_fault_text      the text of what is wrong with bytes
use Rattle.std.specs.Prelude.{ℕ, if◌then◌else◌, List, ◌++◌, length, codes, Option, Some}
use Rattle.std.specs.Fmt.{decimal, option_append}
use Rattle.enumset.specs.Sets.{BitSet, is_empty}
use Rattle.example_headers.specs.declared.frame.FrameFault.{FrameFault}
use Rattle.example_headers.specs.declared.frame.FrameFault.TheVariants.{NoHeader, WrongLength}

abbrev pub flags_text : (BitSet → Option (List ℕ)) → BitSet → Option (List ℕ)
flags_text text flags = if is_empty flags then Some (codes "no flags") else text flags

abbrev pub frame_text : (BitSet → Option (List ℕ)) → BitSet → List ℕ → Option (List ℕ)
frame_text text flags body =
    option_append (flags_text text flags) (Some (codes ", " ++ decimal (length body) ++ codes " bytes"))

abbrev pub frame_fault_text : FrameFault → List ℕ
frame_fault_text NoHeader = codes "no flags or no length"
frame_fault_text (WrongLength stated has) =
    codes "a body of " ++ (decimal has ++ (codes " bytes, where " ++ (decimal stated ++ codes " were stated")))
