use Rattle.std.proofs.Common.{rules, ◌≡◌, ◌+◌, ◌<◌, [], ◌∷◌, ◌++◌, length, take, sym, ◌∙◌, get_or}
use Rattle.std.proofs.lemmas.List.{take_more}
use Rattle.enumset_derive.specs.Numbers.{bit_limit}
use Rattle.enumset_derive.specs.Variants.{discriminant_of, name_fault, variant_plan, with_faults, with_some}
use Rattle.enumset_derive.proofs.Named.{named_after-more, with_new, with_below, faultless}
use Rattle.enumset_derive.proofs.plan.variants.name_variants.Goals as goal

pub loop-i-preserved : goal.loop-i-preserved
loop-i-preserved c =
    let o = c.args.options.now in
    let vs = c.args.variants.now in
    let i = c.loop-i.i in
    let v = c.index-variants-i.result in
    let named = c.loop-i.named.items in
    let faults = c.loop-i.faults.items in
    let number = c.discriminant_of-number.result in
    let plan = c.plan_variant-plan.result in
    let within : i < length vs = search rules in
    let is : v ≡ get_or vs i v = c.index-variants-i.is in
    let one : take (i + 1) vs ≡ take i vs ++ v ∷ [] = rw is (take_more vs i v within) in
    let place : length (take i vs) ≡ i = search rules in
    let given : number ≡ discriminant_of v c.loop-i.implied = search rules in
    let own : plan ≡ variant_plan o i named number v = search rules in
    let twice : c.name_fault.result ≡ name_fault (take i vs) v = search rules in
    let items : c.push_some-in-loop-i.new.items.items ≡ with_some named plan.variant = search rules in
    let found : c.push_some-in-loop-i-4.new.items.items ≡ with_faults (with_some faults c.name_fault.result) plan = search rules in
    let more = named_after-more o (take i vs) named faults c.loop-i.implied vs i v within is place in
    record {
      same = rw (one, items, found, twice, own, c.discriminant_after-implied.ensures, given) (sym more ∙ c.loop-i.invariant.same);
      distinct = rw items (with_new named plan.variant c.loop-i.invariant.distinct (search rules));
      range = λ none.
          let faultless = faultless faults c.name_fault.result plan (sym found ∙ none) in
          rw items (with_below (bit_limit o.representation) named plan.variant (c.loop-i.invariant.range faultless.0) (c.plan_variant-plan.ensures.range faultless.1));
    }
