-- Images of sets.
--     contains_image, image_member      a number is in the image exactly if it is the value at some member;  the value
--         at a member is in the image
--     image_empty, image_only, image_insert, image_union      the image of a set that is made of others
--     is_subset_image, image_mono      an image as a subset of a set;  the image of a subset
--     image_same, image_itself, image_image      functions that agree on the members;  the function that changes
--         nothing;  two functions, one after the other
--     len_image, len_image_injective      the image has at most as many members as the set, and as many if the function
--         gives different members different values
use Rattle.std.proofs.Common.{◌≡◌, ◌↔◌, ◌≤◌, ℕ, Bool, true, false, true≢false, List, [], ◌∷◌, map, refl, sym, ap, ◌∙◌, arith, ◌==◌, eq-eqb, eqb-true}
use Rattle.std.proofs.lemmas.Bool.{or_left, or_right, false_from_ne_true}
use Rattle.std.proofs.lemmas.Bool.Decides.{nat_tests, same_from_decides}
use Rattle.enumset_repr.specs.BitSet.{BitSet, is_in, contains, ascending, len, empty, insert, only, union, is_subset}
use Rattle.enumset_repr.specs.Laws.Algebra.{contains_inserted, insert_grows}
use Rattle.enumset_repr.specs.Laws.Ascending.{len_insert}
use Rattle.enumset_repr.specs.Laws.Counting.{len_inserted}
use Rattle.enumset_repr.specs.Rules.Members.{decided}
use Rattle.enumset_repr.specs.Laws.Members.{union_only, members, same_set, contains_empty, contains_insert, contains_ascending, contains_from_list, contains_is_subset, is_subset_contains}
use Rattle.enumset_repr.specs.Laws.Induction.{set_induction}
use Rattle.enumset_repr.specs.Image.{image}

-- ---- membership

-- a number in a list of values is the value at a number of the list
value_of : (f : ℕ → ℕ) (q : ℕ) (bs : List ℕ) → is_in q (map f bs) ≡ true → (b : ℕ) × (is_in b bs ≡ true) × (q ≡ f b)
value_of f q [] one = absurd (true≢false (sym one))
value_of f q (b ∷ bs) one = at (q == f b) refl (value_of f q bs) where
  at : (t : Bool) → (q == f b) ≡ t → (is_in q (map f bs) ≡ true → (c : ℕ) × (is_in c bs ≡ true) × (q ≡ f c)) → (c : ℕ) × (is_in c (b ∷ bs) ≡ true) × (q ≡ f c)
  at true same later = (b, or_left (b == b) _ (eq-eqb b b refl), eqb-true q (f b) same)
  at false other later = let rest = later (grind (arith, nat_tests)) in (rest.0, or_right (rest.0 == b) _ rest.1, rest.2)

value_in : (f : ℕ → ℕ) (b : ℕ) (bs : List ℕ) → is_in b bs ≡ true → is_in (f b) (map f bs) ≡ true
value_in f b [] one = absurd (true≢false (sym one))
value_in f b (c ∷ bs) one = at (b == c) refl (value_in f b bs) where
  at : (t : Bool) → (b == c) ≡ t → (is_in b bs ≡ true → is_in (f b) (map f bs) ≡ true) → is_in (f b) (map f (c ∷ bs)) ≡ true
  at true same later = or_left (f b == f c) _ (eq-eqb (f b) (f c) (ap f (eqb-true b c same)))
  at false other later = or_right (f b == f c) _ (later (grind (arith, nat_tests)))

contains_values : (f : ℕ → ℕ) (s : BitSet) (q : ℕ) → contains (image f s) q ≡ is_in q (map f (ascending s))
unfolding image
contains_values f s q = contains_from_list (map f (ascending s)) q

-- the value at a member is in the image
pub image_member : (f : ℕ → ℕ) (s : BitSet) (b : ℕ) → contains s b ≡ true → contains (image f s) (f b) ≡ true
image_member f s b one = contains_values f s (f b) ∙ value_in f b (ascending s) (sym (contains_ascending s b) ∙ one)

-- a number is in the image exactly if it is the value at some member
pub contains_image : (f : ℕ → ℕ) (s : BitSet) (q : ℕ) → (contains (image f s) q ≡ true) ↔ ((b : ℕ) × (contains s b ≡ true) × (q ≡ f b))
contains_image f s q = (
  λ here. let found = value_of f q (ascending s) (sym (contains_values f s q) ∙ here) in (found.0, contains_ascending s found.0 ∙ found.1, found.2),
  λ found. ap (contains (image f s)) found.2 ∙ image_member f s found.0 found.1,
)

-- two sets are the same if each member of the one is in the other
same_members : (s t : BitSet) → ((q : ℕ) → contains s q ≡ true → contains t q ≡ true) → ((q : ℕ) → contains t q ≡ true → contains s q ≡ true) → s ≡ t
same_members s t one other = same_set s t (λ q. same_from_decides _ _ (one q, other q) (λ h. h, λ h. h))

-- an image is a subset of t exactly if the value at each member is in t
pub is_subset_image : (f : ℕ → ℕ) (s t : BitSet) → (is_subset (image f s) t ≡ true) ↔ ((b : ℕ) → contains s b ≡ true → contains t (f b) ≡ true)
is_subset_image f s t = (
  λ within b one. is_subset_contains (image f s) t within (f b) (image_member f s b one),
  λ each. contains_is_subset (image f s) t (λ q here. let found = (contains_image f s q).0 here in ap (contains t) found.2 ∙ each found.0 found.1),
)

-- ---- sets that are made of others

-- the image of the empty set is empty
pub image_empty : (f : ℕ → ℕ) → image f empty ≡ empty
image_empty f = same_members _ _
    (λ q here. let found = (contains_image f empty q).0 here in absurd (true≢false (sym found.1 ∙ contains_empty found.0)))
    (λ q here. absurd (true≢false (sym here ∙ contains_empty q)))

-- the image of a subset is a subset of the image
pub image_mono : (f : ℕ → ℕ) (s t : BitSet) → is_subset s t ≡ true → is_subset (image f s) (image f t) ≡ true
image_mono f s t within = (is_subset_image f s (image f t)).1 (λ b one. image_member f t b (is_subset_contains s t within b one))

-- the image of a union is the union of the images
pub image_union : (f : ℕ → ℕ) (s t : BitSet) → image f (union s t) ≡ union (image f s) (image f t)
image_union f s t = same_members _ _ parts whole where
  parts : (q : ℕ) → contains (image f (union s t)) q ≡ true → contains (union (image f s) (image f t)) q ≡ true
  parts q here =
      let found = (contains_image f (union s t) q).0 here in
      let either = found.1 in
      let one = image_member f s found.0 in
      let other = image_member f t found.0 in
      ap (contains (union (image f s) (image f t))) found.2 ∙ grind (arith, members)

  whole : (q : ℕ) → contains (union (image f s) (image f t)) q ≡ true → contains (image f (union s t)) q ≡ true
  whole q here =
      let one : is_subset (image f s) (image f (union s t)) ≡ true = image_mono f s (union s t) (grind (arith, decided)) in
      let other : is_subset (image f t) (image f (union s t)) ≡ true = image_mono f t (union s t) (grind (arith, decided)) in
      grind (arith, decided)

only_member : (b q : ℕ) → contains (only b) q ≡ true → q ≡ b
only_member b q one = eqb-true q b (grind (arith, nat_tests, contains_insert empty b q, contains_empty q))

-- the image of one number is its value
pub image_only : (f : ℕ → ℕ) (b : ℕ) → image f (only b) ≡ only (f b)
image_only f b = same_members _ _
    (λ q here.
    let found = (contains_image f (only b) q).0 here in
    ap (contains (only (f b))) (found.2 ∙ ap f (only_member b found.0 found.1)) ∙ contains_inserted empty (f b))
    (λ q here. ap (contains (image f (only b))) (only_member (f b) q here) ∙ image_member f (only b) b (contains_inserted empty b))

-- where a number is inserted, its value is inserted into the image
pub image_insert : (f : ℕ → ℕ) (s : BitSet) (b : ℕ) → image f (insert s b) ≡ insert (image f s) (f b)
image_insert f s b =
    ap (image f) (sym (union_only s b)) ∙ image_union f s (only b) ∙ ap (union (image f s)) (image_only f b) ∙ union_only (image f s) (f b)

-- ---- other functions

values_moved : (f g : ℕ → ℕ) (s : BitSet) → ((b : ℕ) → contains s b ≡ true → f b ≡ g b) → (q : ℕ) → contains (image f s) q ≡ true → contains (image g s) q ≡ true
values_moved f g s same q here =
    let found = (contains_image f s q).0 here in
    ap (contains (image g s)) (found.2 ∙ same found.0 found.1) ∙ image_member g s found.0 found.1

-- functions that agree on the members have the same image
pub image_same : (f g : ℕ → ℕ) (s : BitSet) → ((b : ℕ) → contains s b ≡ true → f b ≡ g b) → image f s ≡ image g s
image_same f g s same = same_members _ _ (values_moved f g s same) (values_moved g f s (λ b one. sym (same b one)))

-- a function that changes no number changes no set
pub image_itself : (s : BitSet) → image (λ b. b) s ≡ s
image_itself s = same_members _ _
    (λ q here. let found = (contains_image (λ b. b) s q).0 here in ap (contains s) found.2 ∙ found.1)
    (λ q here. image_member (λ b. b) s q here)

-- the image of an image is the image under both functions, one after the other
pub image_image : (f g : ℕ → ℕ) (s : BitSet) → image g (image f s) ≡ image (λ b. g (f b)) s
image_image f g s = same_members _ _
    (λ q here.
    let found = (contains_image g (image f s) q).0 here in
    let first = (contains_image f s found.0).0 found.1 in
    ap (contains (image (λ b. g (f b)) s)) (found.2 ∙ ap g first.2) ∙ image_member (λ b. g (f b)) s first.0 first.1)
    (λ q here.
    let found = (contains_image (λ b. g (f b)) s q).0 here in
    ap (contains (image g (image f s))) found.2 ∙ image_member g (image f s) (f found.0) (image_member f s found.0 found.1))

-- ---- sizes

-- an image has at most as many members as the set
pub len_image : (f : ℕ → ℕ) (s : BitSet) → len (image f s) ≤ len s
len_image f = set_induction
    (λ s. len (image f s) ≤ len s)
    (omega (arith, ap len (image_empty f)))
    (λ s b absent earlier. let more = len_insert (image f s) (f b) in let all = ap len (image_insert f s b) in let one = len_inserted s b absent in grind arith)

-- an image has as many members as the set if the function gives different members different values
pub len_image_injective : (f : ℕ → ℕ) (s : BitSet) → ((b c : ℕ) → contains s b ≡ true → contains s c ≡ true → f b ≡ f c → b ≡ c) → len (image f s) ≡ len s
len_image_injective f = set_induction
    (λ s. ((b c : ℕ) → contains s b ≡ true → contains s c ≡ true → f b ≡ f c → b ≡ c) → len (image f s) ≡ len s)
    (λ apart. ap len (image_empty f))
    (λ s b absent earlier apart.
    let inside : (c : ℕ) → contains s c ≡ true → contains (insert s b) c ≡ true = λ c one. is_subset_contains s (insert s b) (insert_grows s b) c one in
    let fresh : contains (image f s) (f b) ≡ false = false_from_ne_true _ (λ here.
    let found = (contains_image f s (f b)).0 here in
    let same = apart b found.0 (contains_inserted s b) (inside found.0 found.1) found.2 in
    true≢false (sym found.1 ∙ ap (contains s) (sym same) ∙ absent)) in
    omega (arith, ap len (image_insert f s b), len_inserted (image f s) (f b) fresh, len_inserted s b absent, earlier (λ c d one other. apart c d (inside c one) (inside d other))))
