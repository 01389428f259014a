-- The titles of stages.
--     stage      the bit of a stage
--     title      the title of the stage of a bit
use Rattle.std.specs.Prelude.{ℕ, List, [], ◌∷◌, codes, slice_index_or}
use Rattle.enumset.specs.Sets.{in_place}
use Rattle.example_set_facts.specs.contracts.stages.Stage.{the_type}
use Rattle.example_set_facts.specs.declared.stages.Stage.{Stage}

abbrev pub stage : Stage → ℕ
stage s = (in_place the_type).bit s

abbrev pub title : ℕ → List ℕ
title q = slice_index_or (codes "draft" ∷ codes "in review" ∷ codes "published" ∷ []) q []
