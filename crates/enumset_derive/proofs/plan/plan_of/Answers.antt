use Rattle.std.proofs.Common.{rules, ◌≡◌, ◌==◌, ◌^◌, true, sum_by}
use Rattle.std.proofs.lemmas.Bool.{and_parts}
use Rattle.std.proofs.lemmas.List.{length-map}
use Rattle.enumset_repr.specs.Lawful.{one_past_all}
use Rattle.enumset_repr.specs.Words.{lists_words}
use Rattle.enumset_derive.proofs.Tests.{lawful_of}
use Rattle.enumset_derive.proofs.plan.plan_of.Goals as goal
use Rattle.enumset_derive.proofs.plan.plan_of.Goals.{in-Integer, in-Words+in_ok-words-in-Words}
use Rattle.enumset_derive.specs.Variants.{bits_of}

pub returns-clause-lawful : goal.returns-clause-lawful
returns-clause-lawful c =
    let named = c.args.variants.items in
    let bs = bits_of named in
    let width : c.width_of-bit_width.result ≡ one_past_all bs = rw c.as_slice.ensures.value at c.width_of-bit_width.ensures in
    elim c.match-kind_of.branch [
      | in-Integer w ↦
          let lists = and_parts _ _ (rw w.as_slice-in-Integer.ensures.value at w.number_of.ensures) in
          rw w.store-is (lawful_of _ bs (sum_by (λ b. 2 ^ b) bs == w.number_of.result) _ _ (length-map named _) lists.1 lists.0 width)
      | in-Words+in_ok-words-in-Words w ↦
          let words = w.in_ok-words-in-Words.words.items in
          let lists : lists_words (bits_of w.as_slice-in-Words.result.now) words ≡ true = search rules in
          rw w.store-is (lawful_of _ bs (lists_words bs words) _ _ (length-map named _) (rw w.as_slice-in-Words.ensures.value at lists) c.requires.distinct width)
    ]
