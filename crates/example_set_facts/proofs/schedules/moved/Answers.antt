use Rattle.std.proofs.Common.{◌≡◌, ap, arith, false}
use Rattle.enumset.specs.Sets as set
use Rattle.example_set_facts.specs.Bits.{day}
use Rattle.example_set_facts.proofs.schedules.moved.Goals as goal

pub returns-clause-count : goal.returns-clause-count
returns-clause-count c =
    let moved : c.bitor.result ≡ set.insert (set.remove c.args.days (day c.args.from)) (day c.args.to) = grind (arith, set.decided) in
    let absent : set.contains (set.remove c.args.days (day c.args.from)) (day c.args.to) ≡ false = grind (arith, set.members) in
    omega (arith, ap set.len moved, set.len_removed c.args.days (day c.args.from) c.requires.on, set.len_inserted _ _ absent)
