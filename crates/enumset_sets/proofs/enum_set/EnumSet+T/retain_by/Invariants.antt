use Rattle.std.specs.List.{FoldsTo}
use Rattle.enumset_sets.proofs.enum_set.EnumSet+T.retain_by.Given as goal
use Rattle.enumset_sets.specs.Retain.{Keeps}

-- the calls for the elements so far made the closure and the set what they are now
abbrev pub invariant-loop-element : goal.invariant-loop-element
invariant-loop-element g l =
    goal.F-IsAlwaysCallable g l.keep
    × FoldsTo (Keeps g.T.EnumSetType.elements.bit g.F.FnMut) (l.fn.keep, l.fn.self) l.yielded (l.keep, l.self)
