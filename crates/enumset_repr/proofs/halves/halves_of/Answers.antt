use Rattle.std.proofs.Common.{◌/◌, ◌^◌, [], ◌∷◌, ap, ◌∙◌}
use Rattle.std.proofs.lemmas.Nat.{and_mask}
use Rattle.enumset_repr.specs.Laws.WordLists.{bits_of_halves}
use Rattle.enumset_repr.specs.Words.{bits_of}
use Rattle.enumset_repr.proofs.halves.halves_of.Goals as goal

pub returns : goal.returns
returns c = ap (λ low. bits_of (low ∷ c.args.n / 2 ^ 64 ∷ [])) (and_mask c.args.n 64) ∙ bits_of_halves c.args.n c.ranges.n.fits
