-- What is written of a set holds no float, and is not nested deeper than a parser allows.
use Rattle.std.proofs.Common.{◌≡◌, ℕ, ◌≤◌, true, false, List, [], ◌∷◌, map, refl, sym, ap, arith}
use Rattle.std.proofs.lemmas.Bool.{or_from}
use Rattle.serde_json.specs.Data.{Data, Members, string, boolean, no_members, member, depth, items_depth, members_depth}
use Rattle.serde_json.specs.Read.{max_depth}
use Rattle.serde_json.specs.View.{items_of}
use Rattle.serde_json.specs.Written.{has_float, items_have_float, members_have_float}
use Rattle.enumset_repr.specs.BitSet.{BitSet, ascending}
use Rattle.enumset_repr.specs.Laws.Algebra.{from_list_ascending}
use Rattle.enumset_repr.specs.Laws.Members.{is_subset_itself}
use Rattle.enumset_sets.specs.Laws.Elements.{bits_are_listed}
use Rattle.enumset.proofs.NamesTaken.{Each, each_written}
use Rattle.enumset.specs.JsonNames.{list_value, map_value}
use Rattle.enumset.specs.Names.{Names, name_of}

-- a value holds no float, and a parser allows its depth
abbrev pub IsFlat : Data → Type 0
IsFlat d = (has_float d ≡ false) × (depth d ≤ max_depth)

-- ---- lists of names

flat_items : (f : ℕ → Data) → ((n : ℕ) → (has_float (f n) ≡ false) × (depth (f n) ≤ 0)) → (ns : List ℕ) → (items_have_float (items_of (map f ns)) ≡ false) × (items_depth (items_of (map f ns)) ≤ 0)
flat_items f flat [] = (refl, omega arith)
flat_items f flat (n ∷ ns) = let rest = flat_items f flat ns in (or_from _ _ (flat n).0 rest.0, omega (arith, (flat n).1, rest.1))

pub list_flat : (names : Names) (s : BitSet) → IsFlat (list_value names s)
list_flat names s = let flat = flat_items (λ b. string (name_of names b)) (λ b. (refl, omega arith)) (ascending s) in (flat.0, omega (arith, flat.1))

-- ---- maps of names

flat_members : (ms : Members) → Each (λ t d. d ≡ boolean true) ms → (members_have_float ms ≡ false) × (members_depth ms ≤ 0)
flat_members no_members each = (refl, omega arith)
flat_members (member t d ms) each =
    let rest = flat_members ms each.1 in (or_from (has_float d) _ (ap has_float each.0) rest.0, omega (arith, ap depth each.0, rest.1))

pub map_flat : (names : Names) (s : BitSet) → IsFlat (map_value names s)
map_flat names s =
    let flat = flat_members _ (each_written (λ t d. d ≡ boolean true) names (ascending s) (ascending s) no_members (λ b one. refl) (bits_are_listed (ascending s) s s (sym (from_list_ascending s)) (is_subset_itself s)) tt) in
    (flat.0, omega (arith, flat.1))
