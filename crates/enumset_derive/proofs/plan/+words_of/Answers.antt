use Rattle.std.proofs.Common.{rules, ◌≡◌, ◌/◌, ◌%◌, ◌∷◌, replicate, arith}
use Rattle.std.proofs.lemmas.Bool.{and_parts, not-true}
use Rattle.enumset_derive.specs.Variants.{bits_of}
use Rattle.enumset_derive.proofs.Sums.{lists_words-none, lists_words-cons}
use Rattle.enumset_derive.proofs.plan.+words_of.Goals as goal

pub returns-in_default-clause-bits : goal.returns-in_default-clause-bits
returns-in_default-clause-bits t c =
    let items : c.in_ok-vec.field-0.items ≡ replicate c.args.count 0 = search rules in
    rw items (lists_words-none c.args.count c.args.named.now (search rules))

pub returns-clause-bits : goal.returns-clause-bits
returns-clause-bits t c =
    let is : c.args.named.now ≡ c.in-Some.first.now ∷ c.in-Some.rest.now = c.in-Some.ensures.cases.0 in
    let low = rw is at c.requires.below in
    let b = c.in-Some.first.now.bit in
    let words = c.in_ok-words.ensures in
    rw is (lists_words-cons _ (bits_of c.in-Some.rest.now) (b / 64) (b % 64) b _ (omega arith) (omega arith) (omega (arith, low, words.count)) (not-true _ (and_parts _ _ (rw is at c.requires.distinct)).0) words.bits c.index_mut.ensures.value)
