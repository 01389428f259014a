use Rattle.std.proofs.Common.{◌≡◌, ◌++◌, ◌∷◌, ℕ, List, length, take, drop, sym, ap, ◌∙◌, arith, true≢false, eq-eqb}
use Rattle.std.proofs.lemmas.List.{take-append-drop}
use Rattle.enumset.proofs.JsonScans.{parted, found_if}
use Rattle.enumset.proofs.set_json.scan.split_string.Goals as goal
use Rattle.enumset.specs.JsonPlain.{Begins, IsPlain, IsPlainByte}

-- a plain text that a quote follows is the longest run of plain bytes at the front
whole : (bytes string rest : List ℕ) (n : ℕ) → IsPlain string → IsPlain (take n bytes) → (Begins IsPlainByte (drop n bytes) → ⊥) → bytes ≡ string ++ 34 ∷ rest → (string ≡ take n bytes) × (drop n bytes ≡ 34 ∷ rest)
whole bytes string rest n plain front most is =
    parted IsPlainByte string (take n bytes) (34 ∷ rest) (drop n bytes) plain front (λ quote. true≢false quote.0) most (sym is ∙ sym (take-append-drop n bytes))

pub returns-in_err-quote-clause-found : goal.returns-in_err-quote-clause-found
returns-in_err-quote-clause-found c = λ string rest plain is.
    let same = whole c.args.bytes.now string rest c.plain_len.result plain c.plain_len.ensures.plain c.plain_len.ensures.most is in
    absurd (omega (arith, c.in_err-quote.ensures.cases, ap length c.split_at.ensures.back, ap length same.1))

pub returns-clause-found : goal.returns-clause-found
returns-clause-found c = λ string rest plain is.
    let same = whole c.args.bytes.now string rest c.plain_len.result plain c.plain_len.ensures.plain c.plain_len.ensures.most is in
    let split : c.in_ok-quote.quote.now ∷ c.in_ok-quote.rest.now ≡ 34 ∷ rest = sym c.in_ok-quote.ensures.cases.0 ∙ c.split_at.ensures.back ∙ same.1 in
    let quote : c.in_ok-quote.quote.now ≡ 34 = cc in
    let after : c.in_ok-quote.rest.now ≡ rest = cc in
    found_if _ c.then_some.result _ _ c.then_some.ensures (eq-eqb _ _ quote) (c.split_at.ensures.front ∙ sym same.0, after)
