use Rattle.std.proofs.Common.{◌≡◌, ◌∷◌, map, ap, rules}
use Rattle.example_expressions.specs.Grammar.{bit}
use Rattle.example_expressions.specs.Texts.{listed, text_at}
use Rattle.example_expressions.proofs.Written.{one_more}
use Rattle.example_expressions.proofs.parser.write_kinds.Goals as goal

pub loop-kind-preserved : goal.loop-kind-preserved
loop-kind-preserved g c =
    let items : c.loop-kind.kind-iterator.items ≡ bit c.in-Some.kind ∷ c.next.new.self.items = search rules in
    let parts = ap (λ bs. listed c.loop-kind.is_first (map text_at bs)) items in
    one_more _ _ _ _ _ _ _ _ _ _ c.loop-kind.invariant parts c.in_ok-write_separator.ensures c.in_ok-write.ensures.writes
