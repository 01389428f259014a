-- Features that need others.
--     feature      the bit of a feature
--     needs_table      the features that the feature of a bit needs by itself
use Rattle.std.specs.Prelude.{ℕ, [], ◌∷◌, slice_index_or}
use Rattle.enumset.specs.Sets.{BitSet, empty, only, from_list, in_place}
use Rattle.example_fixed_points.specs.contracts.feature.Feature.{the_type}
use Rattle.example_fixed_points.specs.declared.feature.Feature.{Feature}
use Rattle.example_fixed_points.specs.declared.feature.Feature.TheVariants.{Core, Net, Http, Json}

abbrev pub feature : Feature → ℕ
feature v = (in_place the_type).bit v

abbrev pub needs_table : ℕ → BitSet
needs_table q = slice_index_or
    (empty
    ∷ only (feature Core)
    ∷ only (feature Net)
    ∷ only (feature Net)
    ∷ only (feature Core)
    ∷ from_list (feature Http ∷ feature Json ∷ [])
    ∷ only (feature Core)
    ∷ [])
    q
    empty
