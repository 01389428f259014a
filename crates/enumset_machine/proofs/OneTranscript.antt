-- Commands within two widths have the same outcomes over both, and so the same replies.
use Rattle.std.proofs.Common.{◌≡◌, ◌≤◌, ℕ, min, Bool, true, false, ◌&&◌, Option, Some, None, IsTrue, List, [], ◌∷◌, refl, ap, sym, ◌∙◌, arith}
use Rattle.std.proofs.Math.Nat.{min-le_left, min-le_right}
use Rattle.std.proofs.lemmas.Bool.Decides.{nat_tests}
use Rattle.std.specs.List.{list_all}
use Rattle.enumset_commands.specs.declared.command.Command.{Command}
use Rattle.enumset_commands.specs.declared.command.Command.TheVariants.{FromNumber, FromNumberCut, FromWords, FromWordsCut}
use Rattle.enumset_commands.specs.declared.mixed_command.MixedCommand.{MixedCommand}
use Rattle.enumset_commands.specs.declared.mixed_command.MixedCommand.TheVariants.{Common, InsertBit, FullComplement}
use Rattle.enumset_commands.specs.declared.reply.Refusal.{Refusal}
use Rattle.enumset_commands.specs.declared.reply.Reply.TheVariants.{Done}
use Rattle.enumset_repr.specs.BitSet.{BitSet, contains, below, intersection, is_subset}
use Rattle.enumset_repr.specs.Laws.Algebra.{intersection_within}
use Rattle.enumset_repr.specs.Laws.Members.{contains_below}
use Rattle.enumset_repr.specs.Laws.Widths.{is_subset_wider}
use Rattle.enumset_repr.specs.Number.{bits}
use Rattle.enumset_repr.specs.Words.{bits_of}
use Rattle.enumset_machine.specs.MixedRuns.{mixed_plan, mixed_outcome, mixed_replies, is_field_within, is_within}
use Rattle.enumset_machine.specs.Plans.{Rules, width_rules, Field, SetAt, IteratorAt, ValidBit, AllowedBit, AnyBit, Width, Value, WordsOf, Plan, refusal, outcome_unless, outcome_by, replies_by}
use Rattle.enumset_machine.specs.Runs.{plan}
use Rattle.enumset_machine.specs.States.{State, start, put_set}

both : (a b : Bool) → (a && b) ≡ true → (a ≡ true) × (b ≡ true)
both true b h = (refl, h)
both false b h = absurd (cc)

-- plans with the same refusal and the same effect
unless_same : (refused : Option Refusal) (a b : Rules) (s : State) (p : Plan) → p.effect a s ≡ p.effect b s → outcome_unless refused a s p ≡ outcome_unless refused b s p
unless_same (Some refused) a b s p effect = refl
unless_same None a b s p effect = ap (λ e. record { reply = e.0; state = e.1 }) effect

plan_same : (a b : Rules) (s : State) (p : Plan) → refusal a p ≡ refusal b p → p.effect a s ≡ p.effect b s → outcome_unless (refusal a p) a s p ≡ outcome_unless (refusal b p) b s p
plan_same a b s p refused effect =
    ap (λ r. outcome_unless r a s p) refused ∙ unless_same (refusal b p) a b s p effect

cut_same : (s : BitSet) (one other : ℕ) → is_subset s (below one) ≡ true → is_subset s (below other) ≡ true → intersection s (below one) ≡ intersection s (below other)
cut_same s one other h k = intersection_within s (below one) h ∙ sym (intersection_within s (below other) k)

-- the last field of a command
last_within : (b : Bool) → (b && true) ≡ true → b ≡ true
last_within b h = (both b true h).0

-- a command of every run depends on the allowed bits only if it has a number or words
command_same : (valid : BitSet) (one other : ℕ) (s : State) (c : Command) → list_all (is_field_within one) (plan c).fields ≡ true → list_all (is_field_within other) (plan c).fields ≡ true → outcome_by (width_rules valid one) plan s c ≡ outcome_by (width_rules valid other) plan s c
unfolding plan
command_same valid one other s (FromNumber r width value) h k =
    let in_one = last_within (is_subset (bits value) (below one)) h in
    let in_other = last_within (is_subset (bits value) (below other)) k in
    plan_same _ _ s (plan (FromNumber r width value)) refl (rw (in_one, in_other) refl)
command_same valid one other s (FromNumberCut r width value) h k =
    let in_one = last_within (is_subset (bits value) (below one)) h in
    let in_other = last_within (is_subset (bits value) (below other)) k in
    plan_same _ _ s (plan (FromNumberCut r width value)) refl (ap (λ new. (Done, put_set s r new)) (cut_same (bits value) one other in_one in_other))
command_same valid one other s (FromWords r ws) h k =
    let in_one = last_within (is_subset (bits_of ws) (below one)) h in
    let in_other = last_within (is_subset (bits_of ws) (below other)) k in
    plan_same _ _ s (plan (FromWords r ws)) refl (rw (in_one, in_other) refl)
command_same valid one other s (FromWordsCut r ws) h k =
    let in_one = last_within (is_subset (bits_of ws) (below one)) h in
    let in_other = last_within (is_subset (bits_of ws) (below other)) k in
    plan_same _ _ s (plan (FromWordsCut r ws)) refl (ap (λ new. (Done, put_set s r new)) (cut_same (bits_of ws) one other in_one in_other))
command_same valid one other s c h k = plan_same (width_rules valid one) (width_rules valid other) s (plan c) refl refl

mixed_same : (valid : BitSet) (one other : ℕ) (s : State) (c : MixedCommand) → is_within one c ≡ true → is_within other c ≡ true → mixed_outcome valid one s c ≡ mixed_outcome valid other s c
unfolding mixed_outcome mixed_plan
mixed_same valid one other s (Common c) h k = command_same valid one other s c h k
mixed_same valid one other s (InsertBit r bit) h k =
    let in_one = last_within (contains (below one) bit) h in
    let in_other = last_within (contains (below other) bit) k in
    plan_same _ _ s (mixed_plan (InsertBit r bit)) (rw (in_one, in_other) refl) refl
mixed_same valid one other s (FullComplement to a) h k = absurd (cc)
mixed_same valid one other s c h k = plan_same (width_rules valid one) (width_rules valid other) s (mixed_plan c) refl refl

bit_wider : (bit m n : ℕ) → m ≤ n → contains (below m) bit ≡ true → contains (below n) bit ≡ true
bit_wider bit m n le within = grind (arith, nat_tests, contains_below)

field_wider : (m n : ℕ) (field : Field) → m ≤ n → is_field_within m field ≡ true → is_field_within n field ≡ true
field_wider m n (SetAt r) le within = refl
field_wider m n (IteratorAt i) le within = refl
field_wider m n (ValidBit bit) le within = bit_wider bit m n le within
field_wider m n (AllowedBit bit) le within = bit_wider bit m n le within
field_wider m n (AnyBit bit) le within = bit_wider bit m n le within
field_wider m n (Width width) le within = refl
field_wider m n (Value width value) le within = is_subset_wider (bits value) m n le within
field_wider m n (WordsOf ws) le within = is_subset_wider (bits_of ws) m n le within

fields_wider : (m n : ℕ) (fields : List Field) → m ≤ n → list_all (is_field_within m) fields ≡ true → list_all (is_field_within n) fields ≡ true
fields_wider m n [] le within = refl
fields_wider m n (field ∷ fields) le within =
    let parts = both (is_field_within m field) (list_all (is_field_within m) fields) within in
    rw (field_wider m n field le parts.0, fields_wider m n fields le parts.1) refl

is_within-wider : (m n : ℕ) (c : MixedCommand) → m ≤ n → is_within m c ≡ true → is_within n c ≡ true
is_within-wider m n (FullComplement to a) le within = within
is_within-wider m n c le within = fields_wider m n (mixed_plan c).fields le within

-- each command has the same outcome at both widths, so the next one starts from the same state
replies_same : (valid : BitSet) (one other m : ℕ) (s : State) (commands : List MixedCommand) → m ≤ one → m ≤ other → list_all (is_within m) commands ≡ true → replies_by (mixed_outcome valid one) s commands ≡ replies_by (mixed_outcome valid other) s commands
replies_same valid one other m s [] a b within = refl
replies_same valid one other m s (c ∷ cs) a b within =
    let parts = both (is_within m c) (list_all (is_within m) cs) within in
    let step : mixed_outcome valid one s c ≡ mixed_outcome valid other s c = mixed_same valid one other s c (is_within-wider m one c a parts.0) (is_within-wider m other c b parts.0) in
    let next = (mixed_outcome valid other s c).state in
    ap (λ o. o.reply ∷ replies_by (mixed_outcome valid one) o.state cs) step
    ∙ ap (λ rs. (mixed_outcome valid other s c).reply ∷ rs) (replies_same valid one other m next cs a b parts.1)

pub one_transcript : (valid : BitSet) (one other : ℕ) (commands : List MixedCommand) → IsTrue (list_all (is_within (min one other)) commands) → mixed_replies valid one commands ≡ mixed_replies valid other commands
one_transcript valid one other commands within =
    replies_same valid one other (min one other) start commands (min-le_left one other) (min-le_right one other) within
