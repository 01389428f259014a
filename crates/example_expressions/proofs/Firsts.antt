-- The kinds with which a part can begin are those at the parts that are reachable from it.
--     reachable_begins      a rule of a reachable part begins with a kind exactly if the whole can begin with it
--     sum_begins      the kinds with which a sum can begin
use Rattle.std.proofs.Common.{◌≡◌, ◌==◌, ℕ, true, List, [], ◌∷◌, map, refl, sym, ap, ◌∙◌, true≢false, arith, ◌↔◌, IsTrue, inl, inr}
use Rattle.std.proofs.lemmas.Bool.{or_cases}
use Rattle.std.proofs.lemmas.Bool.Decides.{nat_tests, same_from_decides}
use Rattle.enumset.specs.FixedPoints.{IsReachable, at_start, from_other}
use Rattle.enumset.specs.Sets.{BitSet, is_in, contains, from_list, only, place}
use Rattle.enumset_repr.specs.Laws.Members.{members, same_set, contains_from_list}
use Rattle.example_expressions.specs.declared.part.Part.{Part}
use Rattle.example_expressions.specs.declared.part.Part.TheVariants.{Sum, Product, Operand}
use Rattle.example_expressions.specs.Grammar.{bit}
use Rattle.example_expressions.specs.First.{part_bit, kinds_at, parts_at, leading_kinds_of, leading_parts_of, CanBegin, at_once, by_part}

kinds_row : (part : Part) → leading_kinds_of (part_bit part) ≡ from_list (map bit (kinds_at part))
unfolding place
kinds_row Sum = refl
kinds_row Product = refl
kinds_row Operand = refl

parts_row : (part : Part) → leading_parts_of (part_bit part) ≡ from_list (map part_bit (parts_at part))
unfolding place
parts_row Sum = refl
parts_row Product = refl
parts_row Operand = refl

kind_at : (part : Part) (kind : ℕ) → contains (leading_kinds_of (part_bit part)) kind ≡ is_in kind (map bit (kinds_at part))
kind_at part kind = ap (λ s. contains s kind) (kinds_row part) ∙ contains_from_list _ kind

part_at : (part : Part) (first : ℕ) → contains (leading_parts_of (part_bit part)) first ≡ is_in first (map part_bit (parts_at part))
part_at part first = ap (λ s. contains s first) (parts_row part) ∙ contains_from_list _ first

named : (q : ℕ) (parts : List Part) → is_in q (map part_bit parts) ≡ true → (first : Part) × (q ≡ part_bit first)
named q [] none = absurd (true≢false (sym none))
named q (part ∷ parts) is = elim (or_cases (q == part_bit part) (is_in q (map part_bit parts)) is) [
  | inl here ↦ (part, grind (arith, nat_tests))
  | inr later ↦ named q parts later
]

module _ (whole : Part) where
  -- a reachable number is the bit of a part, and what this part can begin with, the whole can begin with
  up : (q : ℕ) → IsReachable leading_parts_of (only (part_bit whole)) q → (part : Part) × (q ≡ part_bit part) × ((kind : ℕ) → CanBegin part kind → CanBegin whole kind)
  up q (at_start is) = (whole, grind (arith, members, nat_tests), λ kind begins. begins)
  up q (from_other b before is) =
      let (part, same, above) = up b before in
      let listed : is_in q (map part_bit (parts_at part)) ≡ true = sym (part_at part q) ∙ ap (λ n. contains (leading_parts_of n) q) (sym same) ∙ is in
      let (first, is_first) = named q (parts_at part) listed in
      (first, is_first, λ kind begins. above kind (by_part first (ap (λ n. is_in n (map part_bit (parts_at part))) (sym is_first) ∙ listed) begins))

  down : (kind : ℕ) (part : Part) → IsReachable leading_parts_of (only (part_bit whole)) (part_bit part) → CanBegin part kind
      → (b : ℕ) × IsReachable leading_parts_of (only (part_bit whole)) b × (contains (leading_kinds_of b) kind ≡ true)
  down kind part reached (at_once is) = (part_bit part, reached, kind_at part kind ∙ is)
  down kind part reached (by_part first is begins) = down kind first (from_other (part_bit part) reached (part_at part (part_bit first) ∙ is)) begins

  pub reachable_begins : (kind : ℕ) → ((b : ℕ) × IsReachable leading_parts_of (only (part_bit whole)) b × (contains (leading_kinds_of b) kind ≡ true)) ↔ CanBegin whole kind
  reachable_begins kind = (
    λ (b, reached, is). let (part, same, above) = up b reached in above kind (at_once (sym (kind_at part kind) ∙ ap (λ n. contains (leading_kinds_of n) kind) (sym same) ∙ is)),
    λ begins. down kind whole (at_start (grind (arith, members, nat_tests))) begins,
  )

-- a part can begin only with a kind with which a rule of an operand begins
begins_operand : (part : Part) (kind : ℕ) → CanBegin part kind → is_in kind (map bit (kinds_at Operand)) ≡ true
begins_operand Operand kind (at_once is) = is
begins_operand Sum kind (at_once is) = absurd (true≢false (sym is))
begins_operand Product kind (at_once is) = absurd (true≢false (sym is))
begins_operand part kind (by_part first is begins) = begins_operand first kind begins

pub sum_begins : (s : BitSet) → ((kind : ℕ) → IsTrue (contains s kind) ↔ CanBegin Sum kind) → s ≡ from_list (map bit (kinds_at Operand))
unfolding place
sum_begins s tells = same_set _ _ (λ kind. same_from_decides _ _ (tells kind) (
  λ is. by_part Product refl (by_part Operand refl (at_once (sym (contains_from_list _ kind) ∙ is))),
  λ begins. contains_from_list _ kind ∙ begins_operand Sum kind begins,
))
