-- Machines whose states are sets of flags.
--     bit      the bit of a flag
--     transition      the transition that requires, forbids, clears and sets these flags
--     allows, after      whether a transition may be taken in a state;  the state after it, which is the same if not
--     after_all      the state after a list of transitions
--     holds, Keeps      whether a rule holds of a state;  a transition after which a rule holds wherever it held before
--     keeps_from      whether a transition keeps a rule in a step from one state
--     first, second      the two flags of a rule
--     keeps_from_least      whether a transition keeps a rule in the steps that are tried
--     IsRefusal      what is missing, and what bars
use Rattle.std.specs.Prelude.{◌≡◌, ℕ, Bool, true, not, if◌then◌else◌, ◌&&◌, ◌||◌, List, [], ◌∷◌}
use Rattle.enumset_repr.specs.BitSet.{BitSet, contains, only, union, intersection, difference, is_subset, is_disjoint}
use Rattle.enumset_sets.specs.Elements.{in_place}
use Rattle.example_door.specs.contracts.flag.Flag.{the_type}
use Rattle.example_door.specs.declared.flag.Flag.{Flag}
use Rattle.example_door.specs.declared.machine.Transition.{Transition}
use Rattle.example_door.specs.declared.machine.Refusal.{Refusal}
use Rattle.example_door.specs.declared.machine.Rule.{Rule}
use Rattle.example_door.specs.declared.machine.Rule.TheVariants.{NeverBoth, Implies}

abbrev pub bit : Flag → ℕ
bit flag = (in_place the_type).bit flag

abbrev pub transition : BitSet → BitSet → BitSet → BitSet → Transition
transition required forbidden clears sets = record { required = required; forbidden = forbidden; clears = clears; sets = sets }

abbrev pub allows : Transition → BitSet → Bool
allows t s = is_subset t.required s && is_disjoint t.forbidden s

abbrev pub after : Transition → BitSet → BitSet
after t s = if allows t s then union (difference s t.clears) t.sets else s

abbrev pub after_all : List Transition → BitSet → BitSet
after_all [] s = s
after_all (t ∷ ts) s = after_all ts (after t s)

abbrev pub holds : Rule → BitSet → Bool
holds (NeverBoth one other) s = not (contains s (bit one) && contains s (bit other))
holds (Implies one other) s = not (contains s (bit one)) || contains s (bit other)

abbrev pub Keeps : Rule → Transition → Type 0
Keeps rule t = (s : BitSet) → holds rule s ≡ true → holds rule (after t s) ≡ true

-- if it holds in a state, it holds after a step from there
abbrev pub keeps_from : Rule → Transition → BitSet → Bool
keeps_from rule t s = not (holds rule s) || holds rule (after t s)

abbrev pub first : Rule → Flag
first (NeverBoth one other) = one
first (Implies one other) = one

abbrev pub second : Rule → Flag
second (NeverBoth one other) = other
second (Implies one other) = other

-- from what is required, with none, one or both of the rule's flags
abbrev pub keeps_from_least : Rule → Transition → Bool
keeps_from_least rule t =
    let least = t.required in
    let one = only (bit (first rule)) in
    let other = only (bit (second rule)) in
    keeps_from rule t least && keeps_from rule t (union least one) && keeps_from rule t (union least other) && keeps_from rule t (union (union least one) other)

pub record IsRefusal (t : Transition) (s : BitSet) (refusal : Refusal) : Type 0 where
  pub missing : refusal.missing ≡ difference t.required s
  pub barring : refusal.barring ≡ intersection t.forbidden s
