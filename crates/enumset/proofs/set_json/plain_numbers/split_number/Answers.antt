use Rattle.std.proofs.Common.{◌≡◌, ◌<◌, ◌+◌, ◌*◌, ◌%◌, ◌^◌, ◌++◌, ◌∷◌, [], ◌≤◌, ℕ, suc, List, length, length-append, length-drop, drop, drop-cons, min, max, false, slice_index_or, decimal, sym, ap, subst, ◌∙◌, arith, rules, true≢false}
use Rattle.std.proofs.lemmas.Bool.Decides.{nat_tests}
use Rattle.std.proofs.lemmas.Fmt.{decimal_nonempty}
use Rattle.std.specs.Char.{is_ascii_digit}
use Rattle.enumset.proofs.NumberScans.{Scanned, first_digit, one_more_digit, scanned_pair, IsDigit, no_number, is_nought, same_number, too_long}
use Rattle.enumset.proofs.set_json.plain_numbers.split_number.Goals.{Else-max-gt9, else-loop-at-test, then-loop-at-test+then-max-gt9, in_default-via-in-None-1, in_default-via-in-Some+in-None-1}
use Rattle.enumset.proofs.set_json.plain_numbers.split_number.Goals as goal
use Rattle.enumset.specs.JsonPlain.{Begins}

pub returns-in_err-first-clause-found : goal.returns-in_err-first-clause-found
returns-in_err-first-clause-found c = λ m rest fits none is. absurd (omega (arith, c.in_err-first.ensures.cases, ap length is, length-append (decimal m) rest, decimal_nonempty m fits))

pub returns-in_err-number-clause-found : goal.returns-in_err-number-clause-found
returns-in_err-number-clause-found c = λ m rest fits none is.
    absurd (no_number m rest fits (λ begins. true≢false (sym (subst (Begins IsDigit) (sym is ∙ c.in_ok-first.ensures.cases.0) begins) ∙ sym c.in_err-number.ensures.digit)))

pub returns-then-number-eq0-clause-whole : goal.returns-then-number-eq0-clause-whole
returns-then-number-eq0-clause-whole c = search (rules, first_digit)

pub returns-then-number-eq0-clause-found : goal.returns-then-number-eq0-clause-found
returns-then-number-eq0-clause-found c = λ m rest fits none is.
    let byte : c.in_ok-first.first.now ≡ 48 = omega (arith, c.in_ok-number.ensures.byte, c.if-number-eq0.true) in
    is_nought m rest c.in_ok-first.rest.now fits (sym is ∙ c.in_ok-first.ensures.cases.0 ∙ ap (λ x. x ∷ c.in_ok-first.rest.now) byte)

pub loop-at-init : goal.loop-at-init
loop-at-init c = search (rules, first_digit)

digit : (x : ℕ) → x < 256 → (x + 208) % 256 < 10 → ((x + 208) % 256 < 10) × (x ≡ 48 + (x + 208) % 256)
digit x byte small = (small, omega (arith, byte, small))

two : (c : Else-max-gt9) → let ten = (slice_index_or c.in_ok-first.rest.now c.loop-at.at 0 + 208) % 256 in let one = (slice_index_or c.in_ok-first.rest.now (c.loop-at.at + 1) 0 + 208) % 256 in
    (c.loop-at.number * 100 + (ten * 10 + one) < 2 ^ 64) × Scanned c.args.bytes.now c.in_ok-first.rest.now (c.loop-at.at + 2) (c.loop-at.number * 100 + (ten * 10 + one))
two c =
    let (small, tens) = digit (slice_index_or c.in_ok-first.rest.now c.loop-at.at 0) (c.type_inv.rest _).fits (omega (arith, c.max.ensures, c.if-max-gt9.false)) in
    let (small', ones) = digit (slice_index_or c.in_ok-first.rest.now (c.loop-at.at + 1) 0) (c.type_inv.rest _).fits (omega (arith, c.max.ensures, c.if-max-gt9.false)) in
    scanned_pair _ _ c.loop-at.at c.loop-at.number _ _ (omega (arith, c.min-count.ensures)) (omega (arith, c.min-count.ensures)) small small' tens ones c.loop-at.invariant.1

pub overflow_mul-number : goal.overflow_mul-number
overflow_mul-number c = omega (arith, (two c).0)

pub overflow_add-number-in-loop-at : goal.overflow_add-number-in-loop-at
overflow_add-number-in-loop-at c = omega (arith, (two c).0)

pub loop-at-preserved : goal.loop-at-preserved
loop-at-preserved c = (omega arith, (two c).1, omega arith)

-- the digits before an index and the next one
next_digit : (bytes rest left end : List ℕ) (n i x d : ℕ) → bytes ≡ decimal n ++ drop i rest → left ≡ drop i rest → left ≡ x ∷ end → x ≡ 48 + d → bytes ≡ decimal n ++ (48 + d) ∷ end
next_digit bytes rest left end n i x d so_far back split byte = so_far ∙ ap (λ l. decimal n ++ l) (sym back ∙ split ∙ ap (λ x. x ∷ end) byte)

pub returns-in_err-checked_mul-clause-found : goal.returns-in_err-checked_mul-clause-found
returns-in_err-checked_mul-clause-found c = λ m rest fits none is.
    let digit = c.in-Some-digit_of.digit in
    let all = next_digit c.args.bytes.now c.in_ok-first.rest.now _ c.in-Some.end.now c.loop-at.number c.loop-at.at _ digit c.loop-at.invariant.1.2 c.split_at.ensures.back c.in-Some.ensures.cases.0 c.in-Some-digit_of.ensures.byte in
    absurd (too_long m c.loop-at.number digit rest c.in-Some.end.now fits (omega arith) c.in-Some-digit_of.ensures.below (omega (arith, c.in_err-checked_mul.ensures)) none (sym is ∙ all))

pub returns-in_err-checked_add-clause-found : goal.returns-in_err-checked_add-clause-found
returns-in_err-checked_add-clause-found c = λ m rest fits none is.
    let digit = c.in-Some-digit_of.digit in
    let all = next_digit c.args.bytes.now c.in_ok-first.rest.now _ c.in-Some.end.now c.loop-at.number c.loop-at.at _ digit c.loop-at.invariant.1.2 c.split_at.ensures.back c.in-Some.ensures.cases.0 c.in-Some-digit_of.ensures.byte in
    absurd (too_long m c.loop-at.number digit rest c.in-Some.end.now fits (omega arith) c.in-Some-digit_of.ensures.below (omega (arith, c.in_ok-checked_mul.ensures.1, c.in_err-checked_add.ensures)) none (sym is ∙ all))

-- a digit after the last one is the twenty-first
last_long : (rest end : List ℕ) (at count n x f : ℕ) → count ≡ min (length rest) 18 → at ≤ count → at % 2 ≡ 0 → count < at + 2 → 10 ^ at ≤ n → n * 10 ≤ f → drop at rest ≡ x ∷ end → Begins IsDigit end → 2 ^ 64 ≤ f * 10
last_long rest [] at count n x f is within even ended least more split begins = absurd begins
last_long rest (y ∷ ys) at count n x f is within even ended least more split begins =
    let long : at + 2 ≤ length rest = omega (arith, ap length split, length-drop at rest) in
    let many : at ≡ 18 = omega (arith, is, within, even, ended, long) in
    let power : 10 ^ at ≡ 10 ^ 18 = ap (λ k. 10 ^ k) many in
    omega (arith, power, least, more)

digit_range : (y : ℕ) → IsDigit y → (48 ≤ y) × (y ≤ 57)
digit_range y digit = (grind (arith, nat_tests, digit), grind (arith, nat_tests, digit))

-- the byte at which the loop ended is no digit, if the one before it is
stopped : (rest end : List ℕ) (at x d most : ℕ) → at + 2 ≤ length rest → drop at rest ≡ x ∷ end → x ≡ 48 + d → d < 10 → 9 < most
    → most ≡ max ((slice_index_or rest at 0 + 208) % 256) ((slice_index_or rest (at + 1) 0 + 208) % 256) → Begins IsDigit end → ⊥
stopped rest end at x d most within split byte small over is begins =
    let one : slice_index_or rest at 0 ∷ drop (suc at) rest ≡ x ∷ end = sym (drop-cons rest at 0 (omega arith)) ∙ split in
    let first : slice_index_or rest at 0 ≡ x = cc in
    let later : drop (suc at) rest ≡ end = cc in
    let next : suc at ≡ at + 1 = omega arith in
    let digit : IsDigit (slice_index_or rest (suc at) 0) = subst (Begins IsDigit) (sym later ∙ drop-cons rest (suc at) 0 (omega arith)) begins in
    let range = digit_range (slice_index_or rest (at + 1) 0) (subst (λ k. IsDigit (slice_index_or rest k 0)) next digit) in
    omega (arith, first, byte, small, over, is, range.0, range.1)

empty_left : (left : List ℕ) → length left ≡ 0 → Begins IsDigit left → ⊥
empty_left [] none begins = begins
empty_left (x ∷ left) none begins = absurd (omega arith)

other_left : (left end : List ℕ) (x : ℕ) → left ≡ x ∷ end → is_ascii_digit x ≡ false → Begins IsDigit left → ⊥
other_left left end x split other begins = true≢false (sym (subst (Begins IsDigit) split begins) ∙ other)

pub returns-2-clause-found : goal.returns-2-clause-found
returns-2-clause-found c = λ m rest fits none is.
    same_number m c.loop-at.number rest c.split_at.result.1.now fits (omega arith) none (λ begins. absurd (elim c.in_default.branch [
      | in_default-via-in-None-1 w ↦ empty_left c.split_at.result.1.now (first_of (search (rules, c.split_first-2.ensures.cases), grind (arith, c.split_first-2.ensures.cases))) begins
      | in_default-via-in-Some+in-None-1 w ↦ other_left c.split_at.result.1.now w.in-Some.end.now w.in-Some.last.now w.in-Some.ensures.cases.0 (first_of (search (rules, w.digit_of-2.ensures.digit), grind (arith, w.digit_of-2.ensures.digit))) begins
    ])) (sym is ∙ c.loop-at.invariant.1.2 ∙ ap (λ l. decimal c.loop-at.number ++ l) (sym c.split_at.ensures.back))

pub returns : goal.returns
returns c =
    let number = c.loop-at.number in
    let digit = c.in-Some-digit_of.digit in
    let sum : number * 10 + digit ≡ c.in_ok-checked_add.field-0 = omega (arith, c.in_ok-checked_mul.ensures.1, c.in_ok-checked_add.ensures.1) in
    let small : c.in_ok-checked_add.field-0 < 2 ^ 64 = omega (arith, sum, c.in_ok-checked_add.ensures.0) in
    let all : c.args.bytes.now ≡ decimal c.in_ok-checked_add.field-0 ++ c.in-Some.end.now =
    next_digit c.args.bytes.now c.in_ok-first.rest.now _ c.in-Some.end.now number c.loop-at.at _ digit c.loop-at.invariant.1.2 c.split_at.ensures.back c.in-Some.ensures.cases.0 c.in-Some-digit_of.ensures.byte
    ∙ one_more_digit number digit c.in-Some.end.now c.loop-at.invariant.1.0 c.in-Some-digit_of.ensures.below (omega (arith, sum, c.in_ok-checked_add.ensures.0, c.in_ok-checked_add.ensures.1)) ∙ ap (λ n. decimal n ++ c.in-Some.end.now) sum in
    let left : drop c.loop-at.at c.in_ok-first.rest.now ≡ c.in-Some.last.now ∷ c.in-Some.end.now = sym c.split_at.ensures.back ∙ c.in-Some.ensures.cases.0 in
    let long : Begins IsDigit c.in-Some.end.now → 2 ^ 64 ≤ c.in_ok-checked_add.field-0 * 10 = λ begins. elim c.loop-at-test.branch [
      | else-loop-at-test w ↦ last_long c.in_ok-first.rest.now c.in-Some.end.now c.loop-at.at c.min-count.result number c.in-Some.last.now c.in_ok-checked_add.field-0 c.min-count.ensures c.loop-at.invariant.0 c.loop-at.invariant.2 w.loop-at-test.false c.loop-at.invariant.1.3 (omega (arith, sum)) left begins
      | then-loop-at-test+then-max-gt9 w ↦ absurd (stopped c.in_ok-first.rest.now c.in-Some.end.now c.loop-at.at c.in-Some.last.now digit _ (omega (arith, w.loop-at-test.true, c.min-count.ensures)) left c.in-Some-digit_of.ensures.byte c.in-Some-digit_of.ensures.below w.if-max-gt9.true w.max.ensures begins)
    ] in
    record {
      below = small;
      whole = all;
      found = λ m rest fits none is. same_number m c.in_ok-checked_add.field-0 rest c.in-Some.end.now fits small none long (sym is ∙ all);
    }
