-- What the reader of maps finds in a plain map, member by member.
use Rattle.std.proofs.Common.{◌≡◌, ◌<◌, ℕ, Bool, true, false, not, ◌==◌, List, [], ◌∷◌, ◌++◌, length, length-append, map, Some, sym, ap, subst, ◌∙◌, ◌⊎◌, inl, inr, arith, true≢false, ne_eqb, zip}
use Rattle.std.proofs.lemmas.Bool.{and_parts, or_parts, not-true}
use Rattle.std.proofs.lemmas.Bool.Decides.{nat_tests}
use Rattle.std.proofs.lemmas.Slice.Eq.{bytes_eq-Decides}
use Rattle.std.specs.List.{AllByRecursion, list_any}
use Rattle.std.specs.Str.{bytes_eq}
use Rattle.serde_json.specs.Data.{boolean}
use Rattle.serde_json.specs.Written.{compact_text}
use Rattle.enumset_repr.specs.BitSet.{BitSet, empty, insert, contains}
use Rattle.enumset_repr.specs.Laws.Members.{members}
use Rattle.enumset_repr.specs.Number.{is_distinct}
use Rattle.enumset.proofs.NameLaws.{name_alone}
use Rattle.enumset.proofs.PlainTexts.{Closes, Next, unquoted}
use Rattle.enumset.specs.JsonNames.{is_unknown}
use Rattle.enumset.specs.JsonPlain.{IsPlain, IsSpaced, later_tokens, member_tokens, IsPlainMap, Passed, StartsWithMember}
use Rattle.enumset.specs.Names.{Names, bit_named, are_distinct}

-- what follows a member is shorter than the text that begins with it
pub member_less : (left name : List ℕ) (b : Bool) (rest : List ℕ) → StartsWithMember left name b rest → length rest < length left
member_less left name b rest (plain, (g, h, gs, hs, is)) = omega (arith, ap length is, length-append {A = ℕ})

-- no two names have the same bit
abbrev pub AreApart : Names → Type 0
AreApart names = (s t : List ℕ) (c : ℕ) → bit_named names s ≡ Some c → bit_named names t ≡ Some c → s ≡ t

pub names_apart : (bs : List ℕ) (names : List (List ℕ)) → is_distinct bs ≡ true → AreApart (zip bs names)
names_apart bs names apart s t c one other = (name_alone bs names c s apart one).1 ∙ sym (name_alone bs names c t apart other).1

module _ (names : Names) where
  -- no name's bit is in a set
  abbrev Clear : BitSet → List (List ℕ × Bool) → Type 0
  Clear seen = AllByRecursion (λ m. (b : ℕ) → bit_named names m.0 ≡ Some b → contains seen b ≡ false)

  abbrev AreKnown : List (List ℕ × Bool) → Type 0
  AreKnown = AllByRecursion (λ m. IsPlain m.0 × (is_unknown names m.0 ≡ false))

  all_clear : (ms : List (List ℕ × Bool)) → Clear empty ms
  all_clear [] = tt
  all_clear (m ∷ ms) = (λ b is. grind (arith, members), all_clear ms)

  -- a member after its opening quote, and the members after it, where no name's bit is in a set
  abbrev pub MembersLeft : BitSet → List ℕ → Type 0
  MembersLeft seen left =
      (m : List ℕ × Bool) × (ms : List (List ℕ × Bool)) × (rest : List ℕ) × AreKnown (m ∷ ms) × (are_distinct (map (λ m. m.0) (m ∷ ms)) ≡ true) × Clear seen (m ∷ ms)
      × StartsWithMember left m.0 m.1 rest × IsSpaced (later_tokens 125 (map member_tokens ms)) rest

  -- what follows the opening brace
  abbrev pub AfterBrace : List ℕ → Type 0
  AfterBrace rest = Closes 125 rest ⊎ Next 34 (MembersLeft empty) rest

  -- what follows a member
  abbrev pub AfterMember : BitSet → List ℕ → Type 0
  AfterMember seen rest = Closes 125 rest ⊎ Next 44 (Next 34 (MembersLeft seen)) rest

  members_from : (seen : BitSet) (m : List ℕ × Bool) (ms : List (List ℕ × Bool)) (rest : List ℕ) → AreKnown (m ∷ ms) → are_distinct (map (λ m. m.0) (m ∷ ms)) ≡ true → Clear seen (m ∷ ms)
      → IsSpaced ((34 ∷ (m.0 ++ 34 ∷ [])) ∷ (58 ∷ []) ∷ compact_text (boolean m.1) ∷ later_tokens 125 (map member_tokens ms)) rest → Next 34 (MembersLeft seen) rest
  members_from seen m ms text known apart clear (g, rest, gs, is, (h, value, hs, colon, (k, end, ks, value_is, more))) = (
    (m.0 ++ 34 ∷ []) ++ rest,
    (g, gs, is),
    (m, ms, end, known, apart, clear, (known.0.0, (h, k, hs, ks, unquoted m.0 rest ∙ ap (λ l. m.0 ++ 34 ∷ l) (colon ∙ ap (λ l. h ++ 58 ∷ l) value_is))), more),
  )

  pub plain_map : (text : List ℕ) → IsPlainMap names text → (rest : List ℕ) × Passed text 123 rest × AfterBrace rest
  plain_map text ([], known, apart, (g, rest, gs, is, (h, after, hs, end, spaced))) = (rest, (g, gs, is), inl (after, (h, hs, end), spaced))
  plain_map text (m ∷ ms, known, apart, (g, rest, gs, is, more)) = (rest, (g, gs, is), inr (members_from empty m ms rest known apart (all_clear (m ∷ ms)) more))

  pub members_some : (seen : BitSet) (left : List ℕ) → MembersLeft seen left → 0 < length left
  members_some seen left (m, ms, rest, known, distinct, clear, here, more) = omega (arith, member_less left m.0 m.1 rest here)

  -- ---- the members after a member

  other_bit : (seen : BitSet) (b c : ℕ) → contains seen b ≡ false → (b == c) ≡ false → contains (insert seen c) b ≡ false
  other_bit seen b c absent differs = grind (arith, members, nat_tests, absent, differs)

  clear_more : AreApart names → (seen : BitSet) (name : List ℕ) (c : ℕ) (ms : List (List ℕ × Bool)) → bit_named names name ≡ Some c → not (list_any (λ n. bytes_eq n name) (map (λ m. m.0) ms)) ≡ true → Clear seen ms → Clear (insert seen c) ms
  clear_more apart seen name c [] is none clear = tt
  clear_more apart seen name c (m ∷ ms) is none clear =
      let (differs, rest) = or_parts (bytes_eq m.0 name) _ (not-true _ none) in (
        λ b has. other_bit seen b c (clear.0 b has) (ne_eqb b c (λ same. true≢false (sym ((bytes_eq-Decides m.0 name).1 (apart m.0 name c (has ∙ ap Some same) is)) ∙ differs))),
        clear_more apart seen name c ms is (ap not rest) clear.1,
      )

  later : AreApart names → (seen : BitSet) (m : List ℕ × Bool) (ms : List (List ℕ × Bool)) (rest : List ℕ) (c : ℕ) → AreKnown (m ∷ ms) → are_distinct (map (λ m. m.0) (m ∷ ms)) ≡ true → Clear seen (m ∷ ms)
      → bit_named names m.0 ≡ Some c → IsSpaced (later_tokens 125 (map member_tokens ms)) rest → AfterMember (insert seen c) rest
  later apart seen m [] rest c known distinct clear is (h, after, hs, end, spaced) = inl (after, (h, hs, end), spaced)
  later apart seen m (n ∷ ms) rest c known distinct clear is (h, after, hs, comma, more) =
      let (none, further) = and_parts _ _ distinct in
      inr (after, (h, hs, comma), members_from (insert seen c) n ms after known.1 further (clear_more apart seen m.0 c (n ∷ ms) is none clear.1) more)

  -- ---- the member that the reader finds

  module _ (seen : BitSet) (left : List ℕ) (some : MembersLeft seen left) where
    pub no_member_found : ((name : List ℕ) (b : Bool) (rest : List ℕ) → StartsWithMember left name b rest → ⊥) → ⊥
    no_member_found none = let (m, ms, rest, known, distinct, clear, here, more) = some in none m.0 m.1 rest here

    module _ (name : List ℕ) (b : Bool) (rest : List ℕ) (found : (n : List ℕ) (d : Bool) (r : List ℕ) → StartsWithMember left n d r → (name ≡ n) × (b ≡ d) × (rest ≡ r)) where
      pub found_known : is_unknown names name ≡ false
      found_known =
          let (m, ms, r, known, distinct, clear, here, more) = some in
          ap (is_unknown names) (found m.0 m.1 r here).0 ∙ known.0.1

      module _ (c : ℕ) (is : bit_named names name ≡ Some c) where
        pub found_new : contains seen c ≡ false
        found_new =
            let (m, ms, r, known, distinct, clear, here, more) = some in
            clear.0 c (ap (bit_named names) (sym (found m.0 m.1 r here).0) ∙ is)

        pub after_found : AreApart names → AfterMember (insert seen c) rest
        after_found apart =
            let (m, ms, r, known, distinct, clear, here, more) = some in
            let same = found m.0 m.1 r here in
            subst (AfterMember (insert seen c)) (sym same.2) (later apart seen m ms r c known distinct clear (ap (bit_named names) (sym same.0) ∙ is) more)
