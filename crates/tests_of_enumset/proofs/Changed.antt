-- A config with another list of flags.
--     flags_found, object_changed      what was read of the list, and what was put in
--     shallow      the config nests no deeper than `serde_json` reads, if it did not before
use Rattle.std.proofs.Common.{◌≡◌, ◌≤◌, ℕ, max, List, [], ◌∷◌, map, Ordering, Less, Equal, Greater, Option, Some, option_map, Ok, codes, refl, sym, ap, ◌∙◌, arith}
use Rattle.std.specs.Ordering.{match_ordering, nat_cmp}
use Rattle.std.specs.Cmp.Lexicographic.{slice_cmp}
use Rattle.enumset.specs.Sets.{BitSet, ascending}
use Rattle.serde_json.specs.Data.{Data, null, boolean, number, string, array, object, Members, no_members, member, put, depth, items_depth, members_depth}
use Rattle.serde_json.specs.Find.{as_object}
use Rattle.serde_json.specs.Read.{max_depth}
use Rattle.serde_json.specs.View.{items_of}
use Rattle.enumset.specs.JsonNames.{set_of_list, list_value}
use Rattle.enumset.specs.Names.{Names, name_of}
use Rattle.enumset.specs.declared.set_json.unknown.Unknown.TheVariants.{Refuse}
use Rattle.tests_of_enumset.specs.Configs.{list_in, flags_in, with_flags}

by_order : (o : Ordering) (a b c : Members) (n : ℕ) → members_depth a ≤ n → members_depth b ≤ n → members_depth c ≤ n → members_depth (match_ordering o a b c) ≤ n
by_order Less a b c n x y z = x
by_order Equal a b c n x y z = y
by_order Greater a b c n x y z = z

put-depth : (k : List ℕ) (d : Data) (ms : Members) → members_depth (put k d ms) ≤ max (depth d) (members_depth ms)
put-depth k d no_members = omega arith
put-depth k d (member l e ms) =
    let rest = put-depth k d ms in
    by_order (slice_cmp nat_cmp k l) _ _ _ _ (omega arith) (omega arith) (omega arith)

flat : (names : Names) (bs : List ℕ) → items_depth (items_of (map (λ b. string (name_of names b)) bs)) ≡ 0
flat names [] = refl
flat names (b ∷ bs) = let rest = flat names bs in omega arith

with_flags-depth : (names : Names) (s : BitSet) (config : Data) → depth (with_flags names s config) ≤ max 2 (depth config)
with_flags-depth names s (object ms) =
    let list = flat names (ascending s) in
    let more = put-depth (codes "flags") (list_value names s) ms in omega arith
with_flags-depth names s null = omega arith
with_flags-depth names s (boolean b) = omega arith
with_flags-depth names s (number n) = omega arith
with_flags-depth names s (string text) = omega arith
with_flags-depth names s (array items) = omega arith

pub shallow : (names : Names) (s : BitSet) (config changed : Data) → changed ≡ with_flags names s config → depth config ≤ max_depth → depth changed ≤ max_depth
shallow names s config changed is before = let same = ap depth is in omega (arith, with_flags-depth names s config)

pub flags_found : (names : Names) (config list : Data) (found : Option Data) (flags : BitSet) → found ≡ list_in config → found ≡ Some list → set_of_list names Refuse list ≡ Ok flags → flags_in names config ≡ Some (Ok flags)
flags_found names config list found flags is here read = ap (option_map (set_of_list names Refuse)) (sym is ∙ here) ∙ ap Some read

pub object_changed : (names : Names) (s t : BitSet) (config list : Data) (before after : Members) → Some before ≡ as_object config → after ≡ put (codes "flags") list before → list ≡ list_value names t → t ≡ s → object after ≡ with_flags names s config
object_changed names s t (object ms) list before after is puts lists inserted = cc
object_changed names s t null list before after is puts lists inserted = absurd (cc)
object_changed names s t (boolean b) list before after is puts lists inserted = absurd (cc)
object_changed names s t (number n) list before after is puts lists inserted = absurd (cc)
object_changed names s t (string text) list before after is puts lists inserted = absurd (cc)
object_changed names s t (array items) list before after is puts lists inserted = absurd (cc)
