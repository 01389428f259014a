use Rattle.std.proofs.Common.{rules, arith, ◌≡◌, ◌++◌, [], ap, sym, ◌∙◌, append-nil}
use Rattle.enumset_source.specs.Sources.{written}
use Rattle.enumset_source.proofs.Sources.{none_left, written_append}
use Rattle.enumset_source.proofs.tokens.tokens_of.Goals as goal

pub returns-then-is_empty : goal.returns-then-is_empty
returns-then-is_empty c =
    let all = written c.push.new.self.items in
    let after = c.in_ok-token.after.now in
    let none : after ≡ [] = none_left after (first_of (search rules, grind arith)) in
    let whole : all ++ after ≡ c.args.source.now = first_of (search (rules, written_append), grind (arith, written_append)) in
    sym (append-nil all) ∙ ap (λ x. all ++ x) (sym none) ∙ whole
