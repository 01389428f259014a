-- When a transition keeps a rule.
--     tried      a rule is kept from a state exactly if it is kept from a part of it that has what is required and the
--         same flags of the rule
--     kept_iff      a rule is kept from every state exactly if it is kept from the four states that are tried
--     kept_all      a rule that each transition keeps is kept by a list of them
use Rattle.std.proofs.Common.{◌≡◌, ℕ, Bool, true, false, List, [], ◌∷◌, refl, arith, ◌↔◌, All}
use Rattle.std.proofs.lemmas.Bool.{and_parts, and_from}
use Rattle.std.proofs.lemmas.List.Elements.{All-head, All-tail}
use Rattle.enumset_repr.specs.BitSet.{BitSet, contains, union, only, is_subset, is_disjoint}
use Rattle.enumset_repr.specs.Laws.Members.{members, subsets, is_subset_contains, is_disjoint_contains, contains_is_disjoint}
use Rattle.enumset_repr.specs.Laws.Algebra.{on_subsets, union_left, is_subset_trans}
use Rattle.example_door.specs.declared.machine.Transition.{Transition}
use Rattle.example_door.specs.declared.machine.Rule.{Rule}
use Rattle.example_door.specs.declared.machine.Rule.TheVariants.{NeverBoth, Implies}
use Rattle.example_door.specs.Machines.{bit, allows, after, after_all, holds, Keeps, keeps_from, keeps_from_least, first, second}

-- a rule depends on its two flags only
agree : (rule : Rule) (s u : BitSet) → contains s (bit (first rule)) ≡ contains u (bit (first rule)) → contains s (bit (second rule)) ≡ contains u (bit (second rule))
    → holds rule s ≡ holds rule u
agree (NeverBoth one other) s u e f = cc
agree (Implies one other) s u e f = cc

same_after : (t : Transition) (s c : BitSet) (q : ℕ) → allows t s ≡ true → allows t c ≡ true → contains c q ≡ contains s q → contains (after t c) q ≡ contains (after t s) q
same_after t s c q allowed also same = rw (allowed, also) (grind (arith, members))

allowed_too : (t : Transition) (s c : BitSet) → allows t s ≡ true → is_subset t.required c ≡ true → is_subset c s ≡ true → allows t c ≡ true
allowed_too t s c allowed above within = and_from _ _ above (contains_is_disjoint _ _ (λ q one.
    let free = is_disjoint_contains t.forbidden s (and_parts (is_subset t.required s) (is_disjoint t.forbidden s) allowed).1 q one in let inside = is_subset_contains c s within q in grind arith))

same_inside : (s c : BitSet) (q : ℕ) → is_subset c s ≡ true → (contains s q ≡ true → contains c q ≡ true) → contains c q ≡ contains s q
same_inside s c q within also = let inside = is_subset_contains c s within q in grind arith

module _ (rule : Rule) (t : Transition) (s : BitSet) (allowed : allows t s ≡ true) where
  tried : (c : BitSet) → is_subset t.required c ≡ true → is_subset c s ≡ true → (contains s (bit (first rule)) ≡ true → contains c (bit (first rule)) ≡ true)
      → (contains s (bit (second rule)) ≡ true → contains c (bit (second rule)) ≡ true) → keeps_from rule t c ≡ keeps_from rule t s
  tried c above within one other =
      let e = same_inside s c (bit (first rule)) within one in
      let f = same_inside s c (bit (second rule)) within other in
      let also = allowed_too t s c allowed above within in
      let before = agree rule c s e f in
      let next = agree rule (after t c) (after t s) (same_after t s c _ allowed also e) (same_after t s c _ allowed also f) in cc

  by_flags : (x y : Bool) → contains s (bit (first rule)) ≡ x → contains s (bit (second rule)) ≡ y → keeps_from_least rule t ≡ true → keeps_from rule t s ≡ true
  by_flags false false a b = let same = tried t.required (grind (arith, subsets)) (grind arith) (λ h. absurd (cc)) (λ h. absurd (cc)) in λ least. grind arith
  by_flags true false a b = let same = tried (union t.required (only (bit (first rule)))) (grind (arith, on_subsets)) (grind (arith, subsets)) (λ _. grind (arith, members)) (λ h. absurd (cc)) in λ least. grind arith
  by_flags false true a b = let same = tried (union t.required (only (bit (second rule)))) (grind (arith, on_subsets)) (grind (arith, subsets)) (λ h. absurd (cc)) (λ _. grind (arith, members)) in λ least. grind arith
  by_flags true true a b =
      let same = tried (union (union t.required (only (bit (first rule)))) (only (bit (second rule)))) (is_subset_trans _ _ _ (union_left _ _) (union_left _ _)) (grind (arith, subsets)) (λ _. grind (arith, members)) (λ _. grind (arith, members)) in λ least. grind arith

back : (rule : Rule) (t : Transition) (s : BitSet) → Keeps rule t → keeps_from rule t s ≡ true
back rule t s keeps = let step = keeps s in grind arith

kept : (rule : Rule) (t : Transition) (s : BitSet) (b : Bool) → allows t s ≡ b → keeps_from_least rule t ≡ true → keeps_from rule t s ≡ true
kept rule t s true allowed least = by_flags rule t s allowed _ _ refl refl least
kept rule t s false refused least = rw refused (grind arith)

pub kept_iff : (rule : Rule) (t : Transition) → (keeps_from_least rule t ≡ true) ↔ Keeps rule t
kept_iff rule t = (
  λ least s before. let step = kept rule t s _ refl least in grind arith,
  λ keeps. let least = t.required in let one = only (bit (first rule)) in let other = only (bit (second rule)) in
      cc (back rule t least keeps, back rule t (union least one) keeps, back rule t (union least other) keeps, back rule t (union (union least one) other) keeps),
)

pub kept_all : (rule : Rule) (ts : List Transition) (s : BitSet) → All (Keeps rule) ts → holds rule s ≡ true → holds rule (after_all ts s) ≡ true
kept_all rule [] s all before = before
kept_all rule (t ∷ ts) s all before = kept_all rule ts (after t s) (All-tail (Keeps rule) t ts all) (All-head (Keeps rule) t ts all s before)
