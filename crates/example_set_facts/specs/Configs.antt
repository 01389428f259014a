-- Faults of two texts in JSON that list features.
--     IsFaultOfBoth      whether a fault is that of the first of two texts; or, if this one lists features, that of the
--         other; or, if both do, that a number is too wide
use Rattle.std.specs.Prelude.{◌≡◌, ◌⊎◌, ℕ, true, List, Some, option_map, is_ok, Err}
use Rattle.enumset.specs.JsonReads.{IsReadOf}
use Rattle.enumset.specs.declared.set_json.fault.JsonFault.{JsonFault}
use Rattle.enumset.specs.declared.set_json.fault.JsonFault.TheVariants.{TooWide}
use Rattle.example_set_facts.specs.Features.{set_in, set_read}

abbrev pub IsFaultOfBoth : List ℕ → List ℕ → JsonFault → Type 0
IsFaultOfBoth one other fault =
    IsReadOf set_read one (Err fault)
    ⊎ ((option_map is_ok (set_in one) ≡ Some true)
    × (IsReadOf set_read other (Err fault)
    ⊎ ((option_map is_ok (set_in other) ≡ Some true) × (fault ≡ TooWide))))
