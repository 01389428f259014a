use Rattle.std.proofs.Common.{refl, ap, ◌∙◌}
use denote.Param.Always.{mut_next}
use Rattle.std.proofs.lemmas.Fn.{FoldsTo-push, called}
use Rattle.std.proofs.lemmas.Iterator.Consumers.{YieldsList-end}
use Rattle.enumset_sets.specs.Laws.Iterators.{of_bits}
use Rattle.enumset_sets.proofs.enum_set.EnumSet+T.retain_by.Goals as goal

pub loop-element-preserved-then-not-keep : goal.loop-element-preserved-then-not-keep
loop-element-preserved-then-not-keep g c = (
  mut_next g.F.FnMut _ _ _ _ _ c.keep.ensures refl c.loop-element.invariant.0,
  FoldsTo-push _ _ c.loop-element.yielded (c.loop-element.keep, c.loop-element.self) c.in-Some.element _ c.loop-element.invariant.1 (c.keep.result, called g.F.FnMut c.keep.ensures refl, rw c.if-not-keep.true c.remove.ensures.removed),
)

pub loop-element-preserved : goal.loop-element-preserved
loop-element-preserved g c = (
  mut_next g.F.FnMut _ _ _ _ _ c.keep.ensures refl c.loop-element.invariant.0,
  FoldsTo-push _ _ c.loop-element.yielded (c.loop-element.keep, c.loop-element.self) c.in-Some.element _ c.loop-element.invariant.1 (c.keep.result, called g.F.FnMut c.keep.ensures refl, rw c.if-not-keep.false refl),
)

pub returns : goal.returns
returns g c =
    let end = YieldsList-end (of_bits g.T.EnumSetType.elements.bit _ _ (ap (λ i. i.items) c.into_iter-element-iterator.ensures.into_iter_gives ∙ c.iter-element-items.ensures.ascending)) c.loop-element.yielded _ c.loop-element.yielded_by _ _ c.in-None.is c.next.ensures.steps in
    (c.loop-element.yielded, end.0, c.loop-element.invariant.1)
