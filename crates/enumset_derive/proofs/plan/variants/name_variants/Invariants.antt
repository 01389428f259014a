use Rattle.std.proofs.Common.{◌≡◌, ◌≤◌, take, drop, [], IsTrue}
use Rattle.enumset_repr.specs.Lawful.{one_past_all}
use Rattle.enumset_repr.specs.Number.{is_distinct}
use Rattle.enumset_source.specs.declared.number.Number.TheVariants.{Natural}
use Rattle.enumset_derive.proofs.plan.variants.name_variants.Given as goal
use Rattle.enumset_derive.specs.Numbers.{bit_limit}
use Rattle.enumset_derive.specs.Variants.{named_after, bits_of}
use Rattle.enumset_derive.specs.declared.plan.variants.Implied.TheVariants.{Number}

-- the remaining variants follow the variants so far
abbrev pub invariant-loop-i : goal.invariant-loop-i
invariant-loop-i l = record {
  same : named_after l.options (take l.i l.variants) l.named.items l.faults.items l.implied (drop l.i l.variants) ≡ named_after l.options [] [] [] (Number (Natural 0)) l.variants;
  distinct : IsTrue (is_distinct (bits_of l.named.items));
  range : l.faults.items ≡ [] → one_past_all (bits_of l.named.items) ≤ bit_limit l.options.representation;
}
