-- What happens to a door.
--     name_of      the word for an event
--     row      what an event asks and changes
--     IsSafe      no door is open and locked, and none is locked or alarmed without power
use Rattle.std.specs.Prelude.{◌≡◌, ℕ, true, List, codes}
use Rattle.enumset_repr.specs.BitSet.{BitSet, empty, only, union}
use Rattle.example_door.specs.declared.flag.Flag.{Flag}
use Rattle.example_door.specs.declared.flag.Flag.TheVariants.{Open, Locked, Alarmed, Powered}
use Rattle.example_door.specs.declared.event.Event.{Event}
use Rattle.example_door.specs.declared.event.Event.TheVariants as event
use Rattle.example_door.specs.declared.machine.Transition.{Transition}
use Rattle.example_door.specs.declared.machine.Rule.TheVariants.{NeverBoth, Implies}
use Rattle.example_door.specs.Machines.{bit, transition, holds}

abbrev pub name_of : Event → List ℕ
name_of event.Open = codes "open"
name_of event.Close = codes "close"
name_of event.Lock = codes "lock"
name_of event.Unlock = codes "unlock"
name_of event.Force = codes "force"
name_of event.Reset = codes "reset"
name_of event.PowerOn = codes "power-on"
name_of event.PowerOff = codes "power-off"

infixl 6 ◌∪◌
abbrev pub ◌∪◌ : BitSet → BitSet → BitSet
s ∪ t = union s t

abbrev pub just : Flag → BitSet
just flag = only (bit flag)

-- what it requires, forbids, clears and sets
abbrev pub row : Event → Transition
row event.Open = transition empty (just Open ∪ just Locked) empty (just Open)
row event.Close = transition (just Open) empty (just Open) empty
row event.Lock = transition (just Powered) (just Open ∪ just Locked) empty (just Locked)
row event.Unlock = transition (just Locked) empty (just Locked) empty
row event.Force = transition (just Locked ∪ just Powered) empty (just Locked) (just Open ∪ just Alarmed)
row event.Reset = transition (just Alarmed) empty (just Alarmed) empty
row event.PowerOn = transition empty (just Powered) empty (just Powered)
row event.PowerOff = transition (just Powered) empty (just Locked ∪ just Alarmed ∪ just Powered) empty

pub record IsSafe (s : BitSet) : Type 0 where
  pub not_open_and_locked : holds (NeverBoth Open Locked) s ≡ true
  pub locked_with_power : holds (Implies Locked Powered) s ≡ true
  pub alarmed_with_power : holds (Implies Alarmed Powered) s ≡ true
