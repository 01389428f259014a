-- Names of members, each before the next and as many as there are members, are all names in the order of a map.
use Rattle.std.proofs.Common.{◌≡◌, ◌⊎◌, inl, inr, ℕ, List, [], ◌∷◌, Bor, refl, sym, ap, ◌∙◌, subst, nat_cmp, Ordering, Less, Equal, Greater, ◌≤◌, ◌+◌, length, suc, arith, is_eq, true≢false, true}
use Rattle.std.proofs.lemmas.Cmp.{nat_list_cmp_total, on_total, tied_itself}
use Rattle.std.proofs.lemmas.List.Elements.{recursion_from_All, All-weaker}
use Rattle.std.specs.Cmp.{IsTotalOrder}
use Rattle.std.specs.Cmp.Lexicographic.{slice_cmp}
use Rattle.std.specs.List.{AllByRecursion}
use Rattle.std.specs.List.Sorted.{IsStrictlySortedBy}
use Rattle.std.specs.Ordering.{ordering_reverse, match_ordering}
use Rattle.std.specs.Prelude.{⊤}
use Rattle.serde_json.specs.Data.{Data, boolean, Members, member, no_members, put}
use Rattle.enumset_repr.specs.BitSet.{BitSet, ascending}
use Rattle.enumset_repr.specs.Laws.Ascending.{len_ascending}
use Rattle.enumset.proofs.NamesTaken.{Each, each_put, same_key}
use Rattle.enumset.specs.JsonNames.{members_in, with_bits_true}
use Rattle.enumset.specs.JsonPlain.{AreRising, IsName, AreMembers}
use Rattle.enumset.specs.Names.{Names, name_of}

-- names, in the form that the code has
abbrev pub Texts : Type 0
Texts = List (Bor (List ℕ))

-- each name with `true`, in the order given
abbrev pub all_true : Texts → Members
all_true [] = no_members
all_true (name ∷ names) = member name.now (boolean true) (all_true names)

abbrev pub by_bytes : Bor (List ℕ) → Bor (List ℕ) → Ordering
by_bytes x y = slice_cmp nat_cmp x.now y.now

pub by_bytes_total : IsTotalOrder by_bytes
by_bytes_total = on_total (λ n. n.now) nat_list_cmp_total

-- ---- one more name of a map

-- names with `true`, each before those that come later
abbrev Rises : Members → Type 0
Rises no_members = ⊤
Rises (member name d ms) = (d ≡ boolean true) × Each (λ other e. slice_cmp nat_cmp name other ≡ Less) ms × Rises ms

abbrev IsIn : List ℕ → Members → Type 0
IsIn t no_members = ⊥
IsIn t (member name d ms) = (name ≡ t) ⊎ IsIn t ms

abbrev count : Members → ℕ
count ms = length (members_in ms)

-- if one name is before another, it is before all that the other is before
before_all : {A : Type 0} (f : A → List ℕ) (a b : List ℕ) (xs : List A) → slice_cmp nat_cmp a b ≡ Less → AllByRecursion (λ x. slice_cmp nat_cmp b (f x) ≡ Less) xs → AllByRecursion (λ x. slice_cmp nat_cmp a (f x) ≡ Less) xs
before_all f a b [] less all = tt
before_all f a b (x ∷ xs) less all = (nat_list_cmp_total.trans a b (f x) less all.0, before_all f a b xs less all.1)

-- members with one more name, or with a name that they had
abbrev HasMore : List ℕ → Members → Members → Type 0
HasMore name ms more = Rises more × IsIn name more × ((t : List ℕ) → IsIn t ms → IsIn t more) × (count more ≤ suc (count ms))

has_more : (name : List ℕ) (ms : Members) → Rises ms → HasMore name ms (put name (boolean true) ms)
has_more name no_members rises = ((refl, tt, tt), inl refl, λ t i. absurd i, omega arith)
has_more name (member n d ms) rises = at _ refl (has_more name ms rises.2)
  where
    at : (o : Ordering) → slice_cmp nat_cmp name n ≡ o → HasMore name ms (put name (boolean true) ms)
        → HasMore name (member n d ms) (match_ordering o (member name (boolean true) (member n d ms)) (member n (boolean true) ms) (member n d (put name (boolean true) ms)))
    at Less is later = ((refl, (is, before_all (λ m. m.0) name n (members_in ms) is rises.1), rises), inl refl, λ t i. inr i, omega arith)
    at Equal is later = ((refl, rises.1, rises.2), inl (sym (same_key name n is)), λ t i. i, omega arith)
    at Greater is later = (
      (rises.0, each_put _ name (boolean true) ms (nat_list_cmp_total.antisymm n name ∙ ap ordering_reverse is) rises.1, later.0),
      inr later.1,
      λ t i. elim i [ inl e ↦ inl e | inr i ↦ inr (later.2 t i) ],
      omega (arith, later.3),
    )

-- the names of bits, put in one after another
has_all : (names : Names) (bs : List ℕ) (ms : Members) → Rises ms → let all = with_bits_true names ms bs in
    Rises all × ((t : List ℕ) → IsIn t ms → IsIn t all) × ((t : List ℕ) → IsName names bs t → IsIn t all) × (count all ≤ count ms + length bs)
has_all names [] ms rises = (rises, λ t i. i, λ t i. absurd i, omega arith)
has_all names (b ∷ bs) ms rises =
    let one = has_more (name_of names b) ms rises in
    let rest = has_all names bs (put (name_of names b) (boolean true) ms) one.0 in (
      rest.0,
      λ t i. rest.1 t (one.2 t i),
      λ t i. elim i [ inl e ↦ subst (λ u. IsIn u (with_bits_true names ms (b ∷ bs))) e (rest.1 _ one.1) | inr i ↦ rest.2 t i ],
      omega (arith, one.3, rest.3),
    )

-- ---- names in order, among others in order

before_in : (a t : List ℕ) (ms : Members) → IsIn t ms → Each (λ u d. slice_cmp nat_cmp a u ≡ Less) ms → slice_cmp nat_cmp a t ≡ Less
before_in a t no_members i all = absurd i
before_in a t (member u d ms) (inl e) all = subst (λ t. slice_cmp nat_cmp a t ≡ Less) e all.0
before_in a t (member u d ms) (inr i) all = before_in a t ms i all.1

past : (name : List ℕ) (d : Data) (ms : Members) (ns : Texts) → AllByRecursion (λ n. slice_cmp nat_cmp name n.now ≡ Less) ns → AllByRecursion (λ n. IsIn n.now (member name d ms)) ns → AllByRecursion (λ n. IsIn n.now ms) ns
past name d ms [] above i = tt
past name d ms (n ∷ ns) above (inl e, is) =
    absurd (true≢false (ap is_eq (sym (tied_itself nat_list_cmp_total name) ∙ subst (λ t. slice_cmp nat_cmp name t ≡ Less) (sym e) above.0)))
past name d ms (n ∷ ns) above (inr i, is) = (i, past name d ms ns above.1 is)

within : (ns : Texts) (ms : Members) → AreRising ns → Rises ms → AllByRecursion (λ n. IsIn n.now ms) ns → (length ns ≤ count ms) × (count ms ≤ length ns → all_true ns ≡ ms)
unfolding IsStrictlySortedBy
within [] no_members r s i = (omega arith, λ le. refl)
within [] (member name d ms) r s i = (omega arith, λ le. absurd (omega (arith, le)))
within (n ∷ ns) no_members r s i = absurd i.0
within (n ∷ ns) (member name d ms) r s (inl e, is) =
    let (le, same) = within ns ms r.1 s.2 (past name d ms ns (subst (λ t. AllByRecursion (λ m. slice_cmp nat_cmp t m.now ≡ Less) ns) (sym e) r.0) is) in
    (omega (arith, le), λ more. (λ j. member (sym e j) (sym s.0 j) (same (omega (arith, more)) j)))
within (n ∷ ns) (member name d ms) r s (inr i, is) =
    let (le, same) = within (n ∷ ns) ms r s.2 (i, past name d ms ns (before_all (λ m. m.now) name n.now ns (before_in name n.now ms i s.1) r.0) is) in
    (omega (arith, le), λ more. absurd (omega (arith, le, more)))

pub all_sorted : (names : Names) (s : BitSet) (ns : Texts) → AreMembers names s ns → all_true ns ≡ with_bits_true names no_members (ascending s)
all_sorted names s ns (rising, named, many) =
    let (rises, _, holds, few) = has_all names (ascending s) no_members tt in
    (within ns _ rising rises (recursion_from_All _ ns (All-weaker _ _ (λ n. holds n.now) ns named))).1 (omega (arith, few, many, len_ascending s))
