use Rattle.std.proofs.Common.{◌≡◌, ◌∷◌, length, sym, ap, ◌∙◌, eq-eqb, arith}
use Rattle.enumset.proofs.JsonScans.{found_if}
use Rattle.enumset.proofs.PlainTexts.{no_space, after_spaces}
use Rattle.enumset.proofs.set_json.scan.after_byte.Goals as goal

pub returns-in_err-first-clause-found : goal.returns-in_err-first-clause-found
returns-in_err-first-clause-found c = λ rest none (g, gs, is).
    let same : c.split_spaces.result.1.now ≡ c.args.byte ∷ rest = after_spaces g c.split_spaces.result.0.now (c.args.byte ∷ rest) c.split_spaces.result.1.now gs c.split_spaces.ensures.spaces (no_space c.args.byte rest none) c.split_spaces.ensures.most (sym is ∙ c.split_spaces.ensures.whole) in
    absurd (omega (arith, c.in_err-first.ensures.cases, ap length same))

pub returns-clause-found : goal.returns-clause-found
returns-clause-found c = λ rest none (g, gs, is).
    let same : c.split_spaces.result.1.now ≡ c.args.byte ∷ rest = after_spaces g c.split_spaces.result.0.now (c.args.byte ∷ rest) c.split_spaces.result.1.now gs c.split_spaces.ensures.spaces (no_space c.args.byte rest none) c.split_spaces.ensures.most (sym is ∙ c.split_spaces.ensures.whole) in
    let split : c.in_ok-first.first.now ∷ c.in_ok-first.rest.now ≡ c.args.byte ∷ rest = sym c.in_ok-first.ensures.cases.0 ∙ same in
    let first : c.in_ok-first.first.now ≡ c.args.byte = cc in
    let after : c.in_ok-first.rest.now ≡ rest = cc in
    found_if _ c.then_some.result _ _ c.then_some.ensures (eq-eqb _ _ first) after
