-- The text of a set of stages.
use Rattle.std.proofs.Common.{◌≡◌, true, Some, [], ◌∷◌, map, codes, refl}
use Rattle.std.specs.List.{join_by}
use Rattle.enumset.specs.Sets.{BitSet, ascending, is_subset, valid_bits, place, in_place}
use Rattle.enumset_sets.specs.Texts.{text_at, joined_text}
use Rattle.enumset_sets.specs.Laws.Texts.{text_of_known}
use Rattle.example_set_facts.specs.contracts.stages.Stage.{the_type}
use Rattle.example_set_facts.specs.declared.stages.Stage.TheVariants.{Draft, InReview, Published}
use Rattle.example_set_facts.specs.Stages.{stage, title}

pub text_of_stages : (s : BitSet) → (ascending s ≡ ascending s) × (is_subset s (valid_bits (in_place the_type)) ≡ true → joined_text (map (text_at stage (Draft ∷ InReview ∷ Published ∷ []) (λ v. Some (title (stage v)))) (ascending s)) ≡ Some (join_by title (codes " | ") (ascending s)))
unfolding place
text_of_stages = text_of_known (in_place the_type) (Draft ∷ InReview ∷ Published ∷ []) (λ v. Some (title (stage v))) title refl
