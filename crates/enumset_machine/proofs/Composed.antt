-- A run of commands in parts, and one more step of a run that makes a list of replies, or writes its answers into one.
use Rattle.std.proofs.Common.{◌≡◌, ◌∙◌, ℕ, ◌+◌, ◌<◌, List, [], ◌∷◌, ◌++◌, length, get_or, take, drop, set, map, append_assoc, append-nil, drop-cons, take_all, add-one, suc, refl, ap, sym, arith}
use Rattle.std.proofs.Math.Seq.{drop-length}
use Rattle.std.proofs.lemmas.List.{map-append, take_more_set}
use Rattle.enumset_commands.specs.declared.reply.Reply.{Reply}
use Rattle.enumset_machine.specs.Plans.{Outcome, replies_by, state_after}
use Rattle.enumset_machine.specs.States.{State}

-- the second part starts from the state that the first leaves
pub replies_by-append : {C : Type 0} (outcome : State → C → Outcome) (s : State) (cs ds : List C) → replies_by outcome s (cs ++ ds) ≡ replies_by outcome s cs ++ replies_by outcome (state_after outcome s cs) ds
replies_by-append outcome s [] ds = refl
replies_by-append outcome s (c ∷ cs) ds =
    ap (λ replies. (outcome s c).reply ∷ replies) (replies_by-append outcome (outcome s c).state cs ds)

pub state_after-append : {C : Type 0} (outcome : State → C → Outcome) (s : State) (cs ds : List C) → state_after outcome s (cs ++ ds) ≡ state_after outcome (state_after outcome s cs) ds
state_after-append outcome s [] ds = refl
state_after-append outcome s (c ∷ cs) ds = state_after-append outcome (outcome s c).state cs ds

pub ruleset composed = (replies_by-append, state_after-append)

-- the replies after one more command
pub replies_by-next : {C : Type 0} (outcome : State → C → Outcome) (s t : State) (reply : Reply) (done : List Reply) (commands : List C) (i : ℕ) (command : C) → i < length commands → command ≡ get_or commands i command → outcome s command ≡ record { reply = reply; state = t } → (done ++ reply ∷ []) ++ replies_by outcome t (drop (i + 1) commands) ≡ done ++ replies_by outcome s (drop i commands)
replies_by-next outcome s t reply done commands i command within here h =
    rw (append_assoc done (reply ∷ []) (replies_by outcome t (drop (i + 1) commands)), add-one, drop-cons commands i command within, ← here, h) refl

-- the answers to the first commands, and the replies to the rest, after one more command
pub answers-next : {A C : Type 0} (reply_of : A → Reply) (outcome : State → C → Outcome) (s t : State) (answer : A) (answers : List A) (commands : List C) (i : ℕ) (command : C) → i < length answers → i < length commands → command ≡ get_or commands i command → outcome s command ≡ record { reply = reply_of answer; state = t }
    → map reply_of (take (i + 1) (set answers i answer)) ++ replies_by outcome t (drop (i + 1) commands) ≡ map reply_of (take i answers) ++ replies_by outcome s (drop i commands)
answers-next reply_of outcome s t answer answers commands i command room within here h =
    rw (take_more_set answers i answer room, map-append reply_of (take i answers) (answer ∷ [])) (replies_by-next outcome s t (reply_of answer) (map reply_of (take i answers)) commands i command within here h)

-- the state that the remaining commands leave, after one more command
pub state_after-next : {C : Type 0} (outcome : State → C → Outcome) (s t : State) (reply : Reply) (commands : List C) (i : ℕ) (command : C) → i < length commands → command ≡ get_or commands i command → outcome s command ≡ record { reply = reply; state = t } → state_after outcome t (drop (i + 1) commands) ≡ state_after outcome s (drop i commands)
state_after-next {C = C} outcome s t reply commands i command within here h =
    let first : drop i commands ≡ command ∷ drop (i + 1) commands = rw add-one (drop-cons commands i command within ∙ ap (λ (c : C). c ∷ drop (suc i) commands) (sym here)) in
    ap (λ (o : Outcome). state_after outcome o.state (drop (i + 1) commands)) (sym h)
    ∙ ap (λ (cs : List C). state_after outcome s cs) (sym first)

-- all commands have their answers
pub answers-end : {A C : Type 0} (reply_of : A → Reply) (outcome : State → C → Outcome) (s : State) (answers : List A) (commands : List C) → length commands ≡ length answers → map reply_of (take (length commands) answers) ++ replies_by outcome s (drop (length commands) commands) ≡ map reply_of answers
answers-end reply_of outcome s answers commands same =
    rw (drop-length commands, same, take_all (length answers) answers (omega arith)) (append-nil (map reply_of answers))
