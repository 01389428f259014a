use Rattle.std.proofs.Common.{◌≡◌, ℕ, ◌∷◌, [], List, Some, None, not, find, filter_map, refl, sym, ◌∙◌, arith}
use Rattle.std.proofs.lemmas.Bool.Decides.{nat_tests}
use Rattle.enumset.specs.Sets.{BitSet, contains_from_list, empty_union, from_list, insert, union, same_set, members}
use Rattle.example_set_facts.specs.Bits.{permission}
use Rattle.example_set_facts.specs.Texts.{titled, is_title, parts}
use Rattle.example_set_facts.proofs.PartLaws.{left_first, left_next, left_none}
use Rattle.example_set_facts.proofs.texts.read_titles.Goals as goal

-- the numbers of a list, one by one
none_more : (s : BitSet) → union s (from_list []) ≡ s
none_more s = same_set _ _ (λ q. let none = contains_from_list [] q in grind (arith, members))

one_more : (s : BitSet) (b : ℕ) (bs : List ℕ) → union (insert s b) (from_list bs) ≡ union s (from_list (b ∷ bs))
one_more s b bs = same_set _ _ (λ q. let one = contains_from_list bs q in let more = contains_from_list (b ∷ bs) q in grind (arith, members, nat_tests))

pub loop-part-init : goal.loop-part-init
loop-part-init c =
    let begun = c.split-part-items.ensures in
    let left = left_first _ c.args.text.now begun.text begun.has_more begun.pattern in
    rw (c.into_iter-part-iterator.ensures.into_iter_gives, c.new-granted.ensures) (parts c.args.text.now, left, empty_union _, refl, refl)

pub loop-part-preserved : goal.loop-part-preserved
loop-part-preserved c =
    let before = c.loop-part.invariant in
    let left = left_next c.loop-part.part-iterator c.next.new.self c.in-Some.part before.0 before.1 c.in-Some.ensures.steps in
    let is : titled c.in-Some.part.now ≡ Some (permission c.in_ok-ok_or.field-0) = grind arith in
    rw c.insert.ensures.inserted (left.0, left.2, one_more _ _ _ ∙ rw (left.1, is) at before.2, rw (left.1, is) at before.3, rw (left.1, is) at before.4)

pub returns-in_err-ok_or-clause-fault : goal.returns-in_err-ok_or-clause-fault
returns-in_err-ok_or-clause-fault c =
    let before = c.loop-part.invariant in
    let left = left_next c.loop-part.part-iterator c.next.new.self c.in-Some.part before.0 before.1 c.in-Some.ensures.steps in
    let none : titled c.in-Some.part.now ≡ None = grind arith in
    let found : find (λ t. not (is_title t)) (parts c.args.text.now) ≡ Some c.in-Some.part.now = rw (left.1, none) at before.4 in
    grind arith

pub returns-clause-granted : goal.returns-clause-granted
returns-clause-granted c =
    let before = c.loop-part.invariant in
    let none = left_none c.loop-part.part-iterator c.next.new.self before.0 before.1 c.in-None.ensures.steps in
    sym (none_more _) ∙ rw none at before.2

pub returns-clause-titles : goal.returns-clause-titles
returns-clause-titles c =
    let before = c.loop-part.invariant in
    let none = left_none c.loop-part.part-iterator c.next.new.self before.0 before.1 c.in-None.ensures.steps in
    rw none at before.3
