-- The invariant of the loop that reads plain maps, and the set that a map is read as.
use Rattle.std.proofs.Common.{◌≡◌, ◌+◌, ℕ, Bool, true, false, cond, Some, None, Ok, List, [], ◌∷◌, refl, sym, ap, subst, ◌∙◌, true≢false, arith, option_map, filter_map}
use Rattle.std.proofs.lemmas.Bool.Decides.{nat_tests}
use Rattle.std.proofs.lemmas.Iterator.Adapters.{position_from-zero}
use Rattle.std.specs.List.{cons_option, position_from}
use Rattle.serde_json.specs.Data.{Data, boolean, object, Members, no_members, member, put}
use Rattle.serde_json.specs.Read.{read}
use Rattle.enumset_repr.specs.BitSet.{BitSet, empty, contains, insert, from_list}
use Rattle.enumset_repr.specs.Laws.Algebra.{insert_comm, contains_inserted}
use Rattle.enumset_repr.specs.Laws.Members.{members}
use Rattle.enumset.proofs.JsonItems.{passed, closes, no_item}
use Rattle.enumset.proofs.JsonTokens.{tokens}
use Rattle.enumset.proofs.MapTokens.{put_all, member_tokens, opened, next_member, last_member}
use Rattle.enumset.proofs.NamesTaken.{Each, put_cases, each_put}
use Rattle.enumset.proofs.PlainLists.{no_unknown}
use Rattle.enumset.specs.Json.{unless_fault}
use Rattle.enumset.specs.JsonNames.{members_in, names_in, true_names, is_no_boolean, is_unknown, known_set, unless_unknown, set_of_map}
use Rattle.enumset.specs.JsonPlain.{StartsWithMember, AreSpaces, Passed}
use Rattle.enumset.specs.JsonReads.{value_read, IsResult}
use Rattle.enumset.specs.Names.{Names, bit_named}
use Rattle.enumset.specs.declared.set_json.fault.JsonFault.TheVariants.{NotABoolean}
use Rattle.enumset.specs.declared.set_json.unknown.Unknown.{Unknown}

module _ (names : Names) where
  -- a boolean under a name whose bit is in a set
  abbrev pub IsSeen : BitSet → List ℕ → Data → Type 0
  IsSeen seen text d = ((b : Bool) × (d ≡ boolean b)) × ((c : ℕ) × (bit_named names text ≡ Some c) × (contains seen c ≡ true))

  abbrev pub set_in : Members → BitSet
  set_in ms = known_set names (true_names (members_in ms))

  -- ---- such members as a set

  none_faulty : (seen : BitSet) (place : ℕ) (ms : Members) → Each (IsSeen seen) ms → (position_from is_no_boolean place (members_in ms) ≡ None) × (position_from (is_unknown names) place (names_in (members_in ms)) ≡ None)
  none_faulty seen place no_members each = (refl, refl)
  none_faulty seen place (member text d ms) each =
      let rest = none_faulty seen (place + 1) ms each.1 in
      (grind (arith, each.0.0.1, rest.0), grind (arith, each.0.1.1, rest.1))

  whole_set : (seen : BitSet) (unknown : Unknown) (ms : Members) → Each (IsSeen seen) ms → set_of_map names unknown (object ms) ≡ Ok (set_in ms)
  whole_set seen unknown ms each =
      let none = none_faulty seen 0 ms each in
      (λ j. unless_fault NotABoolean ((position_from-zero is_no_boolean (members_in ms) ∙ none.0) j) (unless_unknown unknown ((position_from-zero (is_unknown names) (names_in (members_in ms)) ∙ none.1) j) (set_in ms)))
      ∙ sym (no_unknown unknown (set_in ms) (set_in ms) refl)

  -- ---- one more member

  one_more : (b : Bool) (text : List ℕ) (c : ℕ) (ms : Members) → bit_named names text ≡ Some c → set_in (member text (boolean b) ms) ≡ cond b (insert (set_in ms) c) (set_in ms)
  unfolding from_list
  one_more true text c ms is = ap (λ o. from_list (cons_option o (filter_map (bit_named names) (true_names (members_in ms))))) is
  one_more false text c ms is = refl

  exchanged : (a b : Bool) (s : BitSet) (c e : ℕ) → cond a (insert (cond b (insert s e) s) c) (cond b (insert s e) s) ≡ cond b (insert (cond a (insert s c) s) e) (cond a (insert s c) s)
  exchanged a b s c e = grind (arith, insert_comm s e c)

  set_put : (seen : BitSet) (text : List ℕ) (b : Bool) (c : ℕ) (ms : Members) → bit_named names text ≡ Some c → contains seen c ≡ false → Each (IsSeen seen) ms → set_in (put text (boolean b) ms) ≡ cond b (insert (set_in ms) c) (set_in ms)
  set_put seen text b c ms is new =
      put_cases (λ before after. Each (IsSeen seen) before → set_in after ≡ cond b (insert (set_in before) c) (set_in before)) text (boolean b)
      (λ ms each. one_more b text c ms is)
      (λ e ms each.
      let same : Some c ≡ Some each.0.1.0 = sym is ∙ each.0.1.1 in
      let bit : each.0.1.0 ≡ c = cc in
      absurd (true≢false (sym each.0.1.2 ∙ ap (contains seen) bit ∙ new)))
      (λ t d ms after later each.
      let ((e, bool), (n, known, old)) = each.0 in
      let first : (ms : Members) → set_in (member t d ms) ≡ cond e (insert (set_in ms) n) (set_in ms) = λ ms. ap (λ v. set_in (member t v ms)) bool ∙ one_more e t n ms known in
      first after ∙ ap (λ s. cond e (insert s n) s) (later each.1) ∙ exchanged e b (set_in ms) n c ∙ ap (λ s. cond b (insert s c) s) (sym (first ms)))
      ms

  each_more : (seen : BitSet) (c : ℕ) (ms : Members) → Each (IsSeen seen) ms → Each (IsSeen (insert seen c)) ms
  each_more seen c no_members each = tt
  each_more seen c (member t d ms) ((bool, (n, known, old)), each) = ((bool, (n, known, grind (arith, members, nat_tests, old))), each_more seen c ms each)

  -- ---- the loop of the scanner

  -- some members were read, whose set is s, and the members that are left, after an opening quote, are put in after
  -- them
  abbrev pub Scanned : List ℕ → List ℕ → BitSet → BitSet → Type 0
  Scanned text left seen s =
      (done : Members) × Each (IsSeen seen) done × (set_in done ≡ s) × ((ms : List (List ℕ × Bool)) → tokens (34 ∷ left) ≡ member_tokens ms → read text ≡ Some (object (put_all ms done)))

  pub scan_begins : (text bytes rest left : List ℕ) → bytes ≡ text → Passed bytes 123 rest → Passed rest 34 left → Scanned text left empty empty
  unfolding from_list
  scan_begins text bytes rest left same found quote = (no_members, tt, refl, λ ms later. ap read (sym same) ∙ opened bytes rest ms found (passed rest 34 left quote ∙ later))

  module _ (text left : List ℕ) (seen s : BitSet) (name : List ℕ) (b : Bool) (rest : List ℕ) (c : ℕ) (so_far : Scanned text left seen s) (here : StartsWithMember left name b rest) (is : bit_named names name ≡ Some c) (new : contains seen c ≡ false) where
    abbrev done : Members
    done = put name (boolean b) so_far.0

    each_done : Each (IsSeen (insert seen c)) done
    each_done = each_put (IsSeen (insert seen c)) name (boolean b) so_far.0 ((b, refl), (c, is, contains_inserted seen c)) (each_more seen c so_far.0 so_far.1)

    set_done : set_in done ≡ cond b (insert s c) s
    set_done = set_put seen name b c so_far.0 is new so_far.1 ∙ ap (λ t. cond b (insert t c) t) so_far.2

    pub scan_next : (after next : List ℕ) → Passed rest 44 after → Passed after 34 next → Scanned text next (insert seen c) (cond b (insert s c) s)
    scan_next after next comma quote = (
      done,
      each_done,
      set_done,
      λ ms later. so_far.3 ((name, b) ∷ ms) (next_member left name b rest here after next ms comma quote later),
    )

    pub scan_ends : (end : List ℕ) (unknown : Unknown) → Passed rest 125 end → AreSpaces end → IsResult (value_read (set_of_map names unknown) text) (Ok (cond b (insert s c) s))
    scan_ends end unknown close spaced =
        let whole : read text ≡ Some (object done) = so_far.3 ((name, b) ∷ []) (last_member left name b rest here end close spaced) in
        subst (λ o. IsResult (option_map (set_of_map names unknown) o) (Ok (cond b (insert s c) s))) (sym whole) (ap Ok (sym set_done) ∙ sym (whole_set (insert seen c) unknown done each_done))

  pub scan_none : (text bytes rest end : List ℕ) (unknown : Unknown) → bytes ≡ text → Passed bytes 123 rest → Passed rest 125 end → AreSpaces end → IsResult (value_read (set_of_map names unknown) text) (Ok empty)
  unfolding from_list
  scan_none text bytes rest end unknown same found close spaced =
      let whole : read text ≡ Some (object no_members) = ap read (sym same) ∙ opened bytes rest [] found (no_item 125 closes.1 rest end close spaced) in
      subst (λ o. IsResult (option_map (set_of_map names unknown) o) (Ok empty)) (sym whole) (sym (whole_set empty unknown no_members tt))
