-- What features need.
--     needs      what the feature of a bit needs by itself
--     against      the bits, of some, that lead to a bit
--     all_features      the bits of all features
--     users      the features that need the feature of a bit by themselves
use Rattle.std.specs.Prelude.{ℕ, [], ◌∷◌, slice_index_or}
use Rattle.enumset.specs.Sets.{BitSet, empty, only, from_list, contains, retain, valid_bits, in_place}
use Rattle.example_set_facts.specs.Bits.{feature}
use Rattle.example_set_facts.specs.contracts.features.Feature.{the_type}
use Rattle.example_set_facts.specs.declared.features.Feature.TheVariants.{Accounts, Payments, Invoices, Reports}

abbrev pub needs : ℕ → BitSet
needs q = slice_index_or
    (empty
    ∷ only (feature Accounts)
    ∷ from_list (feature Accounts ∷ feature Payments ∷ [])
    ∷ only (feature Invoices)
    ∷ only (feature Reports)
    ∷ from_list (feature Accounts ∷ feature Payments ∷ feature Invoices ∷ feature Reports ∷ [])
    ∷ [])
    q
    empty

unfoldable pub against : BitSet → (ℕ → BitSet) → ℕ → BitSet
against all next q = retain all (λ p. contains (next p) q)

abbrev pub all_features : BitSet
all_features = valid_bits (in_place the_type)

abbrev pub users : ℕ → BitSet
users = against all_features needs
