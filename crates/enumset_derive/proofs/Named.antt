-- Variants with their bits, one variant at a time.
use Rattle.std.proofs.Common.{◌≡◌, ◌==◌, ◌<◌, ◌≤◌, ℕ, Bool, true, false, not, cond, ◌||◌, List, [], ◌∷◌, ◌++◌, Option, Some, None, IfSome, ◌+◌, suc, length, get_or, drop, drop-cons, add-one, refl, ap, sym, ◌∙◌, arith, find}
use Rattle.std.proofs.lemmas.Bool.{and_parts, or_parts, not-true}
use Rattle.std.proofs.lemmas.Bool.Decides.{nat_tests}
use Rattle.std.proofs.lemmas.List.{map-append}
use Rattle.std.proofs.lemmas.List.Folds.{list_any-append}
use Rattle.enumset_repr.specs.BitSet.{is_in}
use Rattle.enumset_repr.specs.Lawful.{one_past_all}
use Rattle.enumset_repr.specs.Number.{is_distinct}
use Rattle.enumset_source.specs.declared.number.Number.{Number}
use Rattle.enumset_derive.specs.Numbers.{same_number}
use Rattle.enumset_derive.specs.Variants.{bits_of, has_taken, discriminant_of, discriminant_after, name_fault, variant_plan, with_faults, named_after, with_some}
use Rattle.enumset_derive.specs.declared.fault.Fault.{Fault}
use Rattle.enumset_derive.specs.declared.plan.NamedVariant.{NamedVariant}
use Rattle.enumset_derive.specs.declared.plan.variants.Implied.{Implied}
use Rattle.enumset_derive.specs.declared.plan.variants.VariantPlan.{VariantPlan}
use Rattle.enumset_derive.specs.declared.plan.declaration.Options.{Options}
use Rattle.enumset_derive.specs.declared.plan.declaration.Variant.{Variant}

pub not_taken : (b : ℕ) (n : Number) (named : List NamedVariant) → find (has_taken b n) named ≡ None → is_in b (bits_of named) ≡ false
not_taken b n [] none = refl
not_taken b n (m ∷ ms) none = untaken (b == m.bit) (same_number n m.number) (not_taken b n ms) none where
  untaken : (s t : Bool) → (find (has_taken b n) ms ≡ None → is_in b (bits_of ms) ≡ false) → cond (s || t) (Some m) (find (has_taken b n) ms) ≡ None → (s || is_in b (bits_of ms)) ≡ false
  untaken true t rest h = absurd (cc)
  untaken false true rest h = absurd (cc)
  untaken false false rest h = rest h

-- ---- one more variant

-- one more variant, at place i
pub named_after-more : (o : Options) (earlier : List Variant) (named : List NamedVariant) (faults : List Fault) (n : Implied) (vs : List Variant) (i : ℕ) (v : Variant) → i < length vs → v ≡ get_or vs i v → length earlier ≡ i → named_after o earlier named faults n (drop i vs) ≡ named_after o (earlier ++ v ∷ []) (with_some named (variant_plan o i named (discriminant_of v n) v).variant) (with_faults (with_some faults (name_fault earlier v)) (variant_plan o i named (discriminant_of v n) v)) (discriminant_after (discriminant_of v n)) (drop (i + 1) vs)
named_after-more o earlier named faults n vs i v within is place =
    let left : drop i vs ≡ v ∷ drop (i + 1) vs = rw add-one (drop-cons vs i v within ∙ ap (λ x. x ∷ drop (suc i) vs) (sym is)) in
    ap (named_after o earlier named faults n) left ∙ at i place where
      at : (k : ℕ) → length earlier ≡ k → named_after o earlier named faults n (v ∷ drop (i + 1) vs) ≡ named_after o (earlier ++ v ∷ []) (with_some named (variant_plan o k named (discriminant_of v n) v).variant) (with_faults (with_some faults (name_fault earlier v)) (variant_plan o k named (discriminant_of v n) v)) (discriminant_after (discriminant_of v n)) (drop (i + 1) vs)
      at k same = rw (← same) refl

is_distinct-append : (bs : List ℕ) (b : ℕ) → is_distinct bs ≡ true → is_in b bs ≡ false → is_distinct (bs ++ b ∷ []) ≡ true
is_distinct-append [] b apart new = refl
is_distinct-append (c ∷ bs) b apart new =
    let parts = and_parts (not (is_in c bs)) (is_distinct bs) apart in
    let news = or_parts (b == c) (is_in b bs) new in
    let other : (c == b) ≡ false = grind (arith, nat_tests, news.0) in
    rw (list_any-append (λ d. c == d) bs (b ∷ []), is_distinct-append bs b parts.1 news.1, other, not-true (is_in c bs) parts.0) refl

bits_of-append : (named : List NamedVariant) (n : NamedVariant) → is_distinct (bits_of named) ≡ true → is_in n.bit (bits_of named) ≡ false → is_distinct (bits_of (named ++ n ∷ [])) ≡ true
bits_of-append named n apart new = rw (map-append (λ m. m.bit) named (n ∷ [])) (is_distinct-append (bits_of named) n.bit apart new)

below-append : (limit : ℕ) (named : List NamedVariant) (n : NamedVariant) → one_past_all (bits_of named) ≤ limit → n.bit < limit → one_past_all (bits_of (named ++ n ∷ [])) ≤ limit
below-append limit [] n all one = omega (arith, one)
below-append limit (m ∷ named) n all one = omega (arith, all, below-append limit named n (omega (arith, all)) one)

pub with_new : (named : List NamedVariant) (next : Option NamedVariant) → is_distinct (bits_of named) ≡ true → IfSome next (λ n. is_in n.bit (bits_of named) ≡ false) → is_distinct (bits_of (with_some named next)) ≡ true
with_new named None apart new = apart
with_new named (Some n) apart new = bits_of-append named n apart new

no_more : {A : Type 0} → (items : List A) (item : A) → items ++ item ∷ [] ≡ [] → ⊥
no_more [] item none = absurd (cc)
no_more (x ∷ items) item none = absurd (cc)

-- neither items nor one more
none_more : {A : Type 0} → (items : List A) (item : Option A) → with_some items item ≡ [] → (items ≡ []) × (item ≡ None)
none_more items None none = (none, refl)
none_more items (Some x) none = absurd (no_more items x none)

-- no fault so far, and none of this variant
pub faultless : (faults : List Fault) (fault : Option Fault) (plan : VariantPlan) → with_faults (with_some faults fault) plan ≡ [] → (faults ≡ []) × (plan.repr_fault ≡ None)
faultless faults fault plan none =
    let json = none_more (with_some (with_some (with_some faults fault) plan.bit_fault) plan.repr_fault) plan.json_fault none in
    let repr = none_more (with_some (with_some faults fault) plan.bit_fault) plan.repr_fault json.0 in
    let bit = none_more (with_some faults fault) plan.bit_fault repr.0 in
    ((none_more faults fault bit.0).0, repr.1)

pub with_below : (limit : ℕ) (named : List NamedVariant) (next : Option NamedVariant) → one_past_all (bits_of named) ≤ limit → IfSome next (λ n. n.bit < limit) → one_past_all (bits_of (with_some named next)) ≤ limit
with_below limit named None all one = all
with_below limit named (Some n) all one = below-append limit named n all one
