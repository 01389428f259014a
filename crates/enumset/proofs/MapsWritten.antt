-- The text of names, each before the next, as members of an object, and what it is read as.
use Rattle.std.proofs.Common.{◌≡◌, List, [], ◌∷◌, ◌++◌, Bor, Some, map, refl, sym, ap, ◌∙◌, Less, ℕ, Bool, true, false}
use Rattle.std.proofs.lemmas.Cmp.{nat_list_cmp_total}
use Rattle.std.specs.List.{AllByRecursion}
use Rattle.std.specs.List.Sorted.{IsStrictlySortedBy}
use Rattle.std.specs.Ordering.{ordering_reverse}
use Rattle.serde_json.specs.Data.{object, boolean, Members, no_members, member, put}
use Rattle.serde_json.specs.Read.{read}
use Rattle.serde_json.specs.Written.{compact_text, members_text, comma_if}
use Rattle.enumset_repr.specs.BitSet.{BitSet}
use Rattle.enumset.proofs.JsonLists.{ArePlain, joined, text_before}
use Rattle.enumset.proofs.JsonTokens.{tokens}
use Rattle.enumset.proofs.MapOrder.{by_bytes, Texts, all_true, all_sorted}
use Rattle.enumset.proofs.MapTokens.{put_all, member_tokens, opened, next_member, last_member}
use Rattle.enumset.specs.JsonNames.{map_value}
use Rattle.enumset.specs.JsonPlain.{IsTextOf, AreRising, AreMembers}
use Rattle.enumset.specs.Names.{Names}

abbrev pairs : Texts → List (List ℕ × Bool)
pairs names = map (λ n. (n.now, true)) names

-- names that are after a name are put in behind it
put_behind : (n : Bor (List ℕ)) (names : Texts) (ms : Members) → AllByRecursion (λ m. by_bytes n m ≡ Less) names
    → put_all (pairs names) (member n.now (boolean true) ms) ≡ member n.now (boolean true) (put_all (pairs names) ms)
put_behind n [] ms later = refl
put_behind n (m ∷ names) ms later =
    let one : put m.now (boolean true) (member n.now (boolean true) ms) ≡ member n.now (boolean true) (put m.now (boolean true) ms) = rw (nat_list_cmp_total.antisymm m.now n.now ∙ ap ordering_reverse later.0) in
    ap (put_all (pairs names)) one ∙ put_behind n names (put m.now (boolean true) ms) later.1

put_rising : (names : Texts) → AreRising names → put_all (pairs names) no_members ≡ all_true names
unfolding IsStrictlySortedBy
put_rising [] rising = refl
put_rising (n ∷ names) rising = put_behind n names no_members rising.0 ∙ ap (member n.now (boolean true)) (put_rising names rising.1)

-- ---- the text

abbrev pub closed : List ℕ
closed = 34 ∷ 58 ∷ compact_text (boolean true)

abbrev left_of : Bool → Texts → List ℕ
left_of later names = joined closed (125 ∷ []) later (map (λ n. n.now) names)

members_are : (later : Bool) (names : Texts) → ArePlain (map (λ n. n.now) names) → left_of later names ≡ members_text later (all_true names)
members_are later [] p = refl
members_are later (n ∷ names) p = ap (λ t. comma_if later ++ t) (ap (λ t. 34 ∷ (n.now ++ 34 ∷ 58 ∷ (compact_text (boolean true) ++ t))) (members_are true names p.1) ∙ sym (text_before n.now _ p.0))

members_tokens : (names : Texts) → ArePlain (map (λ n. n.now) names) → tokens (left_of false names) ≡ member_tokens (pairs names)
members_tokens [] p = refl
members_tokens (n ∷ []) p = last_member _ n.now true _ (p.0, ([], [], tt, tt, refl)) [] ([], tt, refl) tt
members_tokens (n ∷ m ∷ names) p = next_member _ n.now true _ (p.0, ([], [], tt, tt, refl)) _ _ (pairs (m ∷ names)) ([], tt, refl) ([], tt, refl) (members_tokens (m ∷ names) p.1)

pub map_written : (bits : Names) (s : BitSet) (names : Texts) (text : List ℕ) → AreMembers bits s names → text ≡ 123 ∷ left_of false names → ArePlain (map (λ n. n.now) names) → IsTextOf (map_value bits s) text
map_written bits s names text are is plain =
    let same = all_sorted bits s names are in (
      is ∙ ap (λ t. 123 ∷ t) (members_are false names plain) ∙ ap (λ ms. compact_text (object ms)) same,
      ap read is ∙ opened _ (left_of false names) (pairs names) ([], tt, refl) (members_tokens names plain) ∙ ap (λ ms. Some (object ms)) (put_rising names are.0 ∙ same),
    )
