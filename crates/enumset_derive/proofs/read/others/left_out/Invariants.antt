use Rattle.std.proofs.Common.{◌≡◌, map, take}
use Rattle.std.specs.List.{filter}
use Rattle.enumset_derive.specs.Items.{is_left_out}
use Rattle.enumset_derive.proofs.read.others.left_out.Given as goal

-- the items left out so far
abbrev pub invariant-loop-item : goal.invariant-loop-item
invariant-loop-item l = map (λ i. i.now) l.left.items ≡ filter is_left_out (take l.item-index l.items)
