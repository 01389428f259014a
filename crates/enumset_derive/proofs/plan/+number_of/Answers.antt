use Rattle.std.proofs.Common.{◌≡◌, ◌∷◌, arith}
use Rattle.std.proofs.lemmas.Bool.{and_parts, not-true}
use Rattle.enumset_derive.specs.Variants.{bits_of}
use Rattle.enumset_derive.proofs.Sums.{lists_bits-cons}
use Rattle.enumset_derive.proofs.plan.+number_of.Goals as goal

pub returns-in-Some : goal.returns-in-Some
returns-in-Some t c =
    let is : c.args.named.now ≡ c.in-Some.first.now ∷ c.in-Some.rest.now = c.in-Some.ensures.cases.0 in
    let low = rw is at c.requires.below in
    rw is (lists_bits-cons 128 (bits_of c.in-Some.rest.now) _ _ (omega (arith, low)) (not-true _ (and_parts _ _ (rw is at c.requires.distinct)).0) c.number_of.ensures)
