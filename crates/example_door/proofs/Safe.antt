-- A door stays safe.
use Rattle.std.proofs.Common.{◌≡◌, true, ◌&&◌}
use Rattle.std.proofs.lemmas.Bool.{and_parts}
use Rattle.enumset_sets.specs.Sets.{BitSet, place}
use Rattle.enumset_repr.specs.Laws.Members.{members}
use Rattle.enumset_repr.specs.Laws.Firsts.{written_out}
use Rattle.enumset_repr.specs.Laws.Iteration.{is_subset_list, is_disjoint_list}
use Rattle.example_door.specs.declared.flag.Flag.TheVariants.{Open, Locked, Alarmed, Powered}
use Rattle.example_door.specs.declared.event.Event.{Event}
use Rattle.example_door.specs.declared.event.Event.TheVariants as event
use Rattle.example_door.specs.declared.machine.Rule.TheVariants.{NeverBoth, Implies}
use Rattle.example_door.specs.Machines.{after, keeps_from_least}
use Rattle.example_door.specs.Events.{row, IsSafe}
use Rattle.example_door.proofs.Kept.{kept_iff}

-- each row keeps the three rules, by the test of the four states
kept : (e : Event) → (keeps_from_least (NeverBoth Open Locked) (row e) && (keeps_from_least (Implies Locked Powered) (row e) && keeps_from_least (Implies Alarmed Powered) (row e))) ≡ true
unfolding place
kept event.Open = simp (members, written_out, is_subset_list, is_disjoint_list)
kept event.Close = simp (members, written_out, is_subset_list, is_disjoint_list)
kept event.Lock = simp (members, written_out, is_subset_list, is_disjoint_list)
kept event.Unlock = simp (members, written_out, is_subset_list, is_disjoint_list)
kept event.Force = simp (members, written_out, is_subset_list, is_disjoint_list)
kept event.Reset = simp (members, written_out, is_subset_list, is_disjoint_list)
kept event.PowerOn = simp (members, written_out, is_subset_list, is_disjoint_list)
kept event.PowerOff = simp (members, written_out, is_subset_list, is_disjoint_list)

pub row_safe : (e : Event) (s : BitSet) → IsSafe s → IsSafe (after (row e) s)
row_safe e s safe =
    let (apart, others) = and_parts _ _ (kept e) in
    let (locked, alarmed) = and_parts _ _ others in record {
      not_open_and_locked = (kept_iff (NeverBoth Open Locked) (row e)).0 apart s safe.not_open_and_locked;
      locked_with_power = (kept_iff (Implies Locked Powered) (row e)).0 locked s safe.locked_with_power;
      alarmed_with_power = (kept_iff (Implies Alarmed Powered) (row e)).0 alarmed s safe.alarmed_with_power;
    }
