use Rattle.std.proofs.Common.{◌≡◌, [], Some, None, Ok, Err, sym, ap, subst, ◌∙◌, refl, arith}
use Rattle.std.specs.Str.Iter.{split_ascii_whitespace_text}
use Rattle.enumset.specs.Sets.{empty}
use Rattle.enumset.specs.Names.{bit_named}
use Rattle.example_permissions.specs.Policy.{right_bit}
use Rattle.example_permissions.specs.Answers.{user_of, IsDecision}
use Rattle.example_permissions.specs.Reading.{right_names, words_of, rights_in, request_in, no_right}
use Rattle.example_permissions.proofs.WordLaws.{words_begin, words_step, words_end}
use Rattle.example_permissions.proofs.ReadingLaws.{request_wrong, request_right, not_answered}
use Rattle.example_permissions.proofs.reader.Policy.answer.Goals as goal

pub returns-in_default : goal.returns-in_default
returns-in_default c =
    let none : words_of c.args.line.now ≡ [] = ap words_of (sym c.split_ascii_whitespace-words.ensures.text) ∙ words_end c.split_ascii_whitespace-words.result c.next.new.self c.in_default.ensures.steps in
    let read = ap (request_in (user_of c.args.self.now)) none in
    record { answer = (None, read, tt); fault = tt; answered = rw none (λ ok. ok, λ ok. ok) }

-- a name that is no user's, where memory runs out or not
pub returns-in_err-from_str-clause-answered : goal.returns-in_err-from_str-clause-answered
returns-in_err-from_str-clause-answered c =
    let words = words_begin c.args.line.now c.split_ascii_whitespace-words.result c.next.new.self c.in-Some.name c.split_ascii_whitespace-words.ensures.text c.in-Some.ensures.steps in
    let none : user_of c.args.self.now c.in-Some.name.now ≡ None = grind arith in
    rw (words, none) (not_answered _ c.from_residual.ensures.0)

pub returns-in_default-get : goal.returns-in_default-get
returns-in_default-get c =
    let words = words_begin c.args.line.now c.split_ascii_whitespace-words.result c.next.new.self c.in-Some.name c.split_ascii_whitespace-words.ensures.text c.in-Some.ensures.steps in
    let none : user_of c.args.self.now c.in-Some.name.now ≡ None = grind arith in
    record { answer = tt; fault = rw (words, none, c.in_ok-from_str.ensures.ok) refl; answered = rw (words, none) (λ ok. ok, λ ok. ok) }

-- a word that is no right's, where memory runs out or not
pub returns-in_err-from_str-2-clause-answered : goal.returns-in_err-from_str-2-clause-answered
returns-in_err-from_str-2-clause-answered c =
    let words = words_begin c.args.line.now c.split_ascii_whitespace-words.result c.next.new.self c.in-Some.name c.split_ascii_whitespace-words.ensures.text c.in-Some.ensures.steps in
    let user : user_of c.args.self.now c.in-Some.name.now ≡ Some c.in-Some-get.user.now = grind arith in
    let more = words_step c.loop-word.word-iterator c.next-in-loop-word.new.self c.in-Some-word.word c.in-Some-word.ensures.steps in
    let none : bit_named right_names c.in-Some-word.word.now ≡ None = grind arith in
    let begun = ap (λ i. rights_in empty (words_of (split_ascii_whitespace_text i))) (sym c.into_iter-word-iterator.ensures.into_iter_gives) in
    let wrong : request_in (user_of c.args.self.now) (words_of c.args.line.now) ≡ Err (no_right c.in-Some-word.word.now) = request_wrong _ _ _ _ _ (no_right c.in-Some-word.word.now) words user (begun ∙ sym (rw (more, none) at c.loop-word.invariant)) in
    rw wrong (not_answered _ c.from_residual-in_err-from_str-2.ensures.0)

pub returns-in_default-of_name : goal.returns-in_default-of_name
returns-in_default-of_name c =
    let words = words_begin c.args.line.now c.split_ascii_whitespace-words.result c.next.new.self c.in-Some.name c.split_ascii_whitespace-words.ensures.text c.in-Some.ensures.steps in
    let user : user_of c.args.self.now c.in-Some.name.now ≡ Some c.in-Some-get.user.now = grind arith in
    let more = words_step c.loop-word.word-iterator c.next-in-loop-word.new.self c.in-Some-word.word c.in-Some-word.ensures.steps in
    let none : bit_named right_names c.in-Some-word.word.now ≡ None = grind arith in
    let begun = ap (λ i. rights_in empty (words_of (split_ascii_whitespace_text i))) (sym c.into_iter-word-iterator.ensures.into_iter_gives) in
    let wrong : request_in (user_of c.args.self.now) (words_of c.args.line.now) ≡ Err (no_right c.in-Some-word.word.now) = request_wrong _ _ _ _ _ (no_right c.in-Some-word.word.now) words user (begun ∙ sym (rw (more, none) at c.loop-word.invariant)) in
    record { answer = tt; fault = rw c.in_ok-from_str-2.ensures.ok (ap Some wrong); answered = rw wrong (λ ok. ok, λ ok. ok) }

pub loop-word-preserved : goal.loop-word-preserved
loop-word-preserved c =
    let more = words_step c.loop-word.word-iterator c.next-in-loop-word.new.self c.in-Some-word.word c.in-Some-word.ensures.steps in
    let found : bit_named right_names c.in-Some-word.word.now ≡ Some (right_bit c.in-Some-of_name.right) = grind arith in
    rw c.insert.ensures.inserted (rw (more, found) at c.loop-word.invariant)

pub returns : goal.returns
returns c =
    let words = words_begin c.args.line.now c.split_ascii_whitespace-words.result c.next.new.self c.in-Some.name c.split_ascii_whitespace-words.ensures.text c.in-Some.ensures.steps in
    let user : user_of c.args.self.now c.in-Some.name.now ≡ Some c.in-Some-get.user.now = grind arith in
    let end = words_end c.loop-word.word-iterator c.next-in-loop-word.new.self c.in-None.ensures.steps in
    let begun = ap (λ i. rights_in empty (words_of (split_ascii_whitespace_text i))) (sym c.into_iter-word-iterator.ensures.into_iter_gives) in
    let read : request_in (user_of c.args.self.now) (words_of c.args.line.now) ≡ Ok (Some (c.in-Some-get.user.now, c.loop-word.asked)) = request_right _ _ _ _ _ _ words user (begun ∙ sym (rw end at c.loop-word.invariant)) in
    let decided : IsDecision c.deref.result.now c.in-Some-get.user.now c.loop-word.asked c.decide.result = record { allowed = c.decide.ensures.allowed; missing = λ right. c.decide.ensures.missing right } in
    record {
      answer = (Some (c.in-Some-get.user.now, c.loop-word.asked), read, subst (λ grants. IsDecision grants c.in-Some-get.user.now c.loop-word.asked c.decide.result) c.deref.ensures.value decided);
      fault = tt;
      answered = rw read (λ ok. ok, λ ok. ok);
    }
