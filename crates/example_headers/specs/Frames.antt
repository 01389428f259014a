-- Frames on the wire, and their flags.
--     bit      the bit of a flag of this version
--     known, reserved      the flags of this version that are set in a byte of flags;  the bits of later versions
--     wire_of      a frame's bytes: its flags, the length of its body, and the body
--     fault_of      what is wrong with bytes that are not a frame
use Rattle.std.specs.Prelude.{ℕ, List, ◌∷◌, length}
use Rattle.enumset.specs.Sets.{BitSet, number, valid_bits, in_place, unknown_members, valid_members}
use Rattle.example_headers.specs.contracts.flag.Flag.{the_type}
use Rattle.example_headers.specs.declared.flag.Flag.{Flag}
use Rattle.example_headers.specs.declared.frame.FrameFault.{FrameFault}
use Rattle.example_headers.specs.declared.frame.FrameFault.TheVariants.{NoHeader, WrongLength}

abbrev pub bit : Flag → ℕ
bit flag = (in_place the_type).bit flag

abbrev pub known : BitSet → BitSet
known flags = valid_members (valid_bits (in_place the_type)) flags

abbrev pub reserved : BitSet → BitSet
reserved flags = unknown_members (valid_bits (in_place the_type)) flags

abbrev pub wire_of : BitSet → List ℕ → List ℕ
wire_of flags body = number flags ∷ length body ∷ body

abbrev pub fault_of : List ℕ → FrameFault
fault_of (flags ∷ stated ∷ body) = WrongLength stated (length body)
fault_of _ = NoHeader
