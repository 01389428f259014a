use Rattle.std.proofs.Common.{eqb, ◌*◌, sym, arith, rules}
use Rattle.enumset_commands.proofs.Parts.{position-at, position-none, none_in_chunk, found_in_chunk}
use Rattle.enumset_commands.proofs.grammar.parts.index_of.Goals as goal

pub returns-then-before-lt16 : goal.returns-then-before-lt16
returns-then-before-lt16 c =
    sym (found_in_chunk (λ b. eqb b c.args.wanted) c.args.text.now (16 * c.loop-k.k) c.count_before-before.result (omega arith) c.loop-k.invariant c.count_before-before.ensures c.if-before-lt16.true)

pub loop-k-preserved : goal.loop-k-preserved
loop-k-preserved c i l =
    none_in_chunk (λ b. eqb b c.args.wanted) c.args.text.now (16 * c.loop-k.k) c.count_before-before.result (omega arith) c.loop-k.invariant c.count_before-before.ensures i (omega arith)

pub returns-then-text-i : goal.returns-then-text-i
returns-then-text-i c =
    sym (position-at (λ b. eqb b c.args.wanted) c.args.text.now c.loop-i.i (omega arith) c.loop-i.invariant (search rules))

pub returns-2 : goal.returns-2
returns-2 c =
    sym (position-none (λ b. eqb b c.args.wanted) c.args.text.now (λ i l. c.loop-i.invariant i (omega arith)))
