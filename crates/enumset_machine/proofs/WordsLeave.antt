-- A command whose reply takes memory leaves the state as it was, so it can be refused memory with nothing to undo.
use Rattle.std.proofs.Common.{◌≡◌, ℕ, Bool, true, false, Option, Some, None, Result, Ok, Err, OnErr, IsOk, if◌then◌else◌, refl, ap, sym, ◌∙◌}
use Rattle.enumset_commands.specs.declared.command.Command.{Command}
use Rattle.enumset_commands.specs.declared.command.Command.TheVariants.{Number, FromNumber, Words, WordsCut, FromWords, Next, NextBack}
use Rattle.enumset_commands.specs.declared.mixed_command.MixedCommand.{MixedCommand}
use Rattle.enumset_commands.specs.declared.mixed_command.MixedCommand.TheVariants.{Common, AsEnumset}
use Rattle.enumset_commands.specs.declared.reply.Reply.{Reply}
use Rattle.enumset_commands.specs.declared.reply.Reply.TheVariants.{Done, Absent, Bit, Unknown}
use Rattle.enumset_commands.specs.declared.reply.Refusal.{Refusal}
use Rattle.enumset_repr.specs.BitSet.{BitSet, contains, is_subset}
use Rattle.enumset_repr.specs.Ends.{first, last}
use Rattle.enumset_repr.specs.Number.{bits}
use Rattle.enumset_repr.specs.Words.{bits_of}
use Rattle.enumset_machine.specs.MixedRuns.{mixed_plan, mixed_outcome}
use Rattle.enumset_machine.specs.Plans.{Rules, valid_rules, width_rules, Plan, step_reply, outcome_unless, refusal, Outcome}
use Rattle.enumset_machine.specs.Replies.{takes_memory}
use Rattle.enumset_machine.specs.Runs.{plan, outcome}
use Rattle.enumset_machine.specs.States.{State, list_at, set_at}

-- no step of an iterator has a reply that takes memory
abbrev StepsAreFree : Rules → Type 0
StepsAreFree rules = (bit : ℕ) → takes_memory (rules.bit_reply bit) ≡ false

step_free : (rules : Rules) → StepsAreFree rules → (bit : Option ℕ) → takes_memory (step_reply rules bit) ≡ true → ⊥
step_free rules free None h = cc
step_free rules free (Some bit) h = let none : takes_memory (rules.bit_reply bit) ≡ false = free bit in cc

put_free : (holds : Bool) → takes_memory (if holds then Done else Absent) ≡ true → ⊥
put_free true h = cc
put_free false h = cc

plan_leaves : (rules : Rules) → StepsAreFree rules → (s : State) (c : Command) → takes_memory ((plan c).effect rules s).0 ≡ true → ((plan c).effect rules s).1 ≡ s
unfolding plan
plan_leaves rules free s (Number r width) h = refl
plan_leaves rules free s (FromNumber r width value) h = absurd (put_free (is_subset (bits value) rules.allowed) h)
plan_leaves rules free s (Words r count) h = refl
plan_leaves rules free s (WordsCut r count) h = refl
plan_leaves rules free s (FromWords r ws) h = absurd (put_free (is_subset (bits_of ws) rules.allowed) h)
plan_leaves rules free s (Next i) h = absurd (step_free rules free (first (list_at s i)) h)
plan_leaves rules free s (NextBack i) h = absurd (step_free rules free (last (list_at s i)) h)
plan_leaves rules free s c h = absurd (cc)

mixed_plan_leaves : (rules : Rules) → StepsAreFree rules → (s : State) (c : MixedCommand) → takes_memory ((mixed_plan c).effect rules s).0 ≡ true → ((mixed_plan c).effect rules s).1 ≡ s
unfolding mixed_plan
mixed_plan_leaves rules free s (Common c) h = plan_leaves rules free s c h
mixed_plan_leaves rules free s (AsEnumset to a) h = absurd (put_free (is_subset (set_at s a) rules.valid) h)
mixed_plan_leaves rules free s c h = absurd (cc)

unless_leaves : (refused : Option Refusal) (rules : Rules) (s : State) (p : Plan) → (takes_memory (p.effect rules s).0 ≡ true → (p.effect rules s).1 ≡ s) → takes_memory (outcome_unless refused rules s p).reply ≡ true → (outcome_unless refused rules s p).state ≡ s
unless_leaves (Some why) rules s p leaves h = refl
unless_leaves None rules s p leaves h = leaves h

pub outcome_leaves : (valid : BitSet) (s : State) (c : Command) → takes_memory (outcome valid s c).reply ≡ true → (outcome valid s c).state ≡ s
unfolding outcome
outcome_leaves valid s c =
    unless_leaves (refusal (valid_rules valid) (plan c)) (valid_rules valid) s (plan c) (plan_leaves (valid_rules valid) (λ bit. refl) s c)

bit_free : (valid : Bool) (bit : ℕ) → takes_memory (if valid then Bit bit else Unknown bit) ≡ false
bit_free true bit = refl
bit_free false bit = refl

pub mixed_outcome_leaves : (valid : BitSet) (width : ℕ) (s : State) (c : MixedCommand) → takes_memory (mixed_outcome valid width s c).reply ≡ true → (mixed_outcome valid width s c).state ≡ s
unfolding mixed_outcome
mixed_outcome_leaves valid width s c =
    unless_leaves (refusal (width_rules valid width) (mixed_plan c)) (width_rules valid width) s (mixed_plan c) (mixed_plan_leaves (width_rules valid width) (λ bit. bit_free (contains valid bit) bit) s c)

-- a step whose reply got no memory leaves the state as it was
unchanged_by : (takes : Bool) (o : Outcome) (s t : State) (reply : Reply) → takes_memory reply ≡ takes → (takes_memory o.reply ≡ true → o.state ≡ s) → o ≡ record { reply = reply; state = t } → (takes_memory reply ≡ false → ⊥) → t ≡ s
unchanged_by true o s t reply takes leaves is refused =
    sym (ap (λ p. p.state) is) ∙ leaves (ap (λ p. takes_memory p.reply) is ∙ takes)
unchanged_by false o s t reply takes leaves is refused = absurd (refused takes)

pub unchanged : {V E : Type 0} (o : Outcome) (s t : State) (reply : Reply) (r : Result V E) → (takes_memory o.reply ≡ true → o.state ≡ s) → o ≡ record { reply = reply; state = t } → (takes_memory reply ≡ false → IsOk r) → OnErr r (t ≡ s)
unchanged o s t reply (Ok value) leaves is succeeds = tt
unchanged o s t reply (Err error) leaves is succeeds = unchanged_by (takes_memory reply) o s t reply refl leaves is (λ free. let no : false ≡ true = succeeds free in cc)
