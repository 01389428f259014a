-- The bytes that the steps over a text pass.
use Rattle.std.proofs.Common.{◌≡◌, ◌<◌, ◌≤◌, ◌+◌, ℕ, zero, suc, List, [], ◌∷◌, ◌++◌, length, take, drop, get_or, refl, subst, sym, ◌∙◌, arith, append-nil, Bool, true, false, true≢false, Option, drop-cons}
use Rattle.std.proofs.lemmas.List.{drop_more}
use Rattle.std.specs.Bool.{then_some}
use Rattle.std.specs.List.{AllByRecursion}
use Rattle.std.specs.Option.{IsSome, IsSomeAnd}
use Rattle.enumset.specs.JsonPlain.{Begins}

module _ (P : ℕ → Type 0) where
  -- a property of the first bytes, and of further ones from an index that the first reach, holds for all of them
  pub run_on : (xs : List ℕ) (b c r n : ℕ) → c ≤ b → n ≡ c + r → AllByRecursion P (take b xs) → AllByRecursion P (take r (drop c xs)) → AllByRecursion P (take n xs)
  run_on xs b zero r n reach is first next = let same : r ≡ n = omega arith in subst (λ m. AllByRecursion P (take m xs)) same next
  run_on (x ∷ xs) (suc b) (suc c) r (suc n) reach is first next = (first.0, run_on xs b c r n (omega (arith, reach)) (omega (arith, is)) first.1 next)
  run_on [] b (suc c) r (suc n) reach is first next = tt
  run_on xs zero (suc c) r n reach is first next = absurd (omega (arith, reach))
  run_on xs b (suc c) r zero reach is first next = absurd (omega (arith, is))

  -- a property of the first bytes and of one more holds for all of them
  pub one_more : (xs : List ℕ) (i : ℕ) → i < length xs → AllByRecursion P (take i xs) → P (get_or xs i 0) → AllByRecursion P (take (i + 1) xs)
  one_more xs i within so_far one = run_on xs i i 1 (i + 1) (omega arith) refl so_far (subst (λ ys. AllByRecursion P (take 1 ys)) (sym (drop_more xs i 0 within)) (one, tt))

  -- if a text begins with two runs of such bytes, and no such byte follows the first run, this run is the second one
  -- and more
  pub further : (s t xs ys : List ℕ) → AllByRecursion P s → AllByRecursion P t → (Begins P xs → ⊥) → s ++ xs ≡ t ++ ys → (ds : List ℕ) × AllByRecursion P ds × (s ≡ t ++ ds) × (ys ≡ ds ++ xs)
  further s [] xs ys ps pt none e = (s, ps, refl, sym e)
  further (a ∷ s) (b ∷ t) xs ys ps pt none e =
      let head : a ≡ b = cc in
      let tail : s ++ xs ≡ t ++ ys = cc in
      let (ds, pd, front, back) = further s t xs ys ps.1 pt.1 none tail in
      (ds, pd, cc, back)
  further [] (b ∷ t) xs ys ps pt none e = absurd (none (subst (Begins P) (sym e) pt.0))

  -- a text has one longest run of such bytes at its front
  pub parted : (s t xs ys : List ℕ) → AllByRecursion P s → AllByRecursion P t → (Begins P xs → ⊥) → (Begins P ys → ⊥) → s ++ xs ≡ t ++ ys → (s ≡ t) × (ys ≡ xs)
  parted s t xs ys ps pt none none' e = at (further s t xs ys ps pt none e)
    where
      at : (ds : List ℕ) × AllByRecursion P ds × (s ≡ t ++ ds) × (ys ≡ ds ++ xs) → (s ≡ t) × (ys ≡ xs)
      at ([], pd, front, back) = (front ∙ append-nil t, back)
      at (d ∷ ds, pd, front, back) = absurd (none' (subst (Begins P) (sym back) pd.0))

  pub begins_at : (xs : List ℕ) (i : ℕ) → i < length xs → Begins P (drop i xs) → P (get_or xs i 0)
  begins_at xs i within begins = subst (Begins P) (drop-cons xs i 0 within) begins

-- ---- what a test keeps

pub some_if : {A : Type 0} (o : Option A) (b : Bool) (v : A) → o ≡ then_some b v → b ≡ true → IsSome o
some_if o true v is holds = subst IsSome (sym is) refl
some_if o false v is holds = absurd (true≢false (sym holds))

pub found_if : {A : Type 0} (P : A → Type 0) (o : Option A) (b : Bool) (v : A) → o ≡ then_some b v → b ≡ true → P v → IsSomeAnd o P
found_if P o true v is one holds = subst (λ o. IsSomeAnd o P) (sym is) holds
found_if P o false v is one holds = absurd (true≢false (sym one))
