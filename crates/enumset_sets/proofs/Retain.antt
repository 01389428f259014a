-- `retain` leaves a subset of the set, and with a test it leaves the members that pass.
use Rattle.std.proofs.Common.{◌≡◌, ◌==◌, ℕ, suc, Bool, true, false, cond, not, ◌&&◌, ◌||◌, List, [], ◌∷◌, map, refl, sym, ap, subst, ◌∙◌, arith, eqb-true, true≢false}
use Rattle.std.proofs.lemmas.Bool.Decides.{nat_tests}
use Rattle.std.specs.Fn.{Mut, Called}
use Rattle.std.specs.List.{FoldsTo}
use Rattle.enumset_repr.specs.BitSet.{BitSet, is_in, contains, remove, retain, is_subset}
use Rattle.enumset_repr.specs.Laws.Members.{contains_is_subset, same_set, contains_remove, contains_retain, contains_ascending}
use Rattle.std.specs.Iterator.Runs.{CallKeepsClosure}
use Rattle.enumset_repr.specs.BitSet.{ascending}
use Rattle.enumset_repr.specs.Laws.Ascending.{AscendsFrom, ascending_ascends, is_in_from, is_in_below}
use Rattle.enumset_sets.specs.Calls.{Selects}
use Rattle.enumset_sets.specs.Retain.{Keeps, Retains, IsConstantTest, IsTest}

one_kept : (s t : BitSet) (b : Bool) (m q : ℕ) → t ≡ cond b s (remove s m) → contains t q ≡ (contains s q && (not (q == m) || b))
one_kept s t true m q is = ap (λ u. contains u q) is ∙ grind (arith, nat_tests)
one_kept s t false m q is = ap (λ u. contains u q) is ∙ contains_remove s m q ∙ grind (arith, nat_tests)

module _ {T F : Type 0} (bit : T → ℕ) (g : Mut F (T × Unit {0}) Bool) where
  each_left : (xs : List T) (u v : F × BitSet) (q : ℕ) → FoldsTo (Keeps bit g) u xs v → contains v.1 q ≡ true → contains u.1 q ≡ true
  each_left [] u v q same one = ap (λ w. contains w.1 q) same ∙ one
  each_left (x ∷ xs) u v q calls one =
      let here = one_kept u.1 calls.0.1 calls.1.0 (bit x) q calls.1.2 in
      let later = each_left xs calls.0 v q calls.2 one in
      grind arith

  pub left : (f : F) (s t : BitSet) → Retains bit g f s t → is_subset t s ≡ true
  left f s t calls = contains_is_subset t s (λ q one. each_left calls.1.0 (f, s) (calls.0, t) q calls.1.2 one)

-- `Usual` is a property that the closure has before each call, and keeps
module _ {T F : Type 0} (bit : T → ℕ) (g : Mut F (T × Unit {0}) Bool) (p : ℕ → Bool) (Usual : F → Type 0)
    (test : (t : T) (f : F) (b : Bool) (f' : F) → Usual f → Called g f (t, tt) b f' → (b ≡ p (bit t)) × Usual f') where
  each_kept : (xs : List T) (u v : F × BitSet) (q : ℕ) → Usual u.0 → FoldsTo (Keeps bit g) u xs v → contains v.1 q ≡ (contains u.1 q && (not (is_in q (map bit xs)) || p q))
  each_kept [] u v q begun same = ap (λ w. contains w.1 q) (sym same) ∙ grind (arith, nat_tests)
  each_kept (x ∷ xs) u v q begun calls =
      let one = calls.1 in
      let here = one_kept u.1 calls.0.1 one.0 (bit x) q one.2 in
      let passes = test x u.0 one.0 calls.0.0 begun one.1 in
      let later = each_kept xs calls.0 v q passes.1 calls.2 in
      let same = λ (e : q ≡ bit x). ap p e in
      grind (arith, nat_tests, passes.0)

  pub kept : (f : F) (s t : BitSet) → Usual f → Retains bit g f s t → t ≡ retain s p
  kept f s t begun calls = same_set t (retain s p) (λ q.
      let each = each_kept calls.1.0 (f, s) (calls.0, t) q begun calls.1.2 in
      let listed = contains_ascending s q ∙ ap (is_in q) (sym calls.1.1) in
      grind (arith, nat_tests, contains_retain s p q))

module _ {T F : Type 0} (bit : T → ℕ) (g : Mut F (T × Unit {0}) Bool) (f : F) (p : ℕ → Bool) (s t : BitSet) (calls : Retains bit g f s t) where
  pub kept_unchanged : IsConstantTest bit g f p → t ≡ retain s p
  kept_unchanged test = kept bit g p (λ h. h ≡ f) (λ x h b h' same call. let one = test x b h' (subst (λ k. Called g k (x, tt) b h') same call) in one) f s t refl calls

  pub kept_by_test : IsTest bit g p → t ≡ retain s p
  kept_by_test test = kept bit g p (λ _. Unit {0}) (λ x h b h' same call. (test x h b h' call, tt)) f s t tt calls

-- what each call returned, where no call changes the closure
module _ {T F : Type 0} (bit : T → ℕ) (g : Mut F (T × Unit {0}) Bool) (f : F) (keeps : CallKeepsClosure g f) where
  abbrev CalledWith : ℕ → Bool → Type 0
  CalledWith q b = (t : T) × (bit t ≡ q) × Called g f (t, tt) b f

  each_call : (k : ℕ) (xs : List T) (u v : F × BitSet) → u.0 ≡ f → AscendsFrom k (map bit xs) → ((q : ℕ) → is_in q (map bit xs) ≡ true → contains u.1 q ≡ true) → FoldsTo (Keeps bit g) u xs v → ((q : ℕ) → is_in q (map bit xs) ≡ false → contains v.1 q ≡ contains u.1 q) × ((q : ℕ) → is_in q (map bit xs) ≡ true → CalledWith q (contains v.1 q))
  each_call k [] u v begun ascends inside same = (λ q none. ap (λ w. contains w.1 q) (sym same), λ q one. absurd (true≢false (sym one)))
  each_call k (x ∷ xs) u v begun ascends inside calls =
      let b = calls.1.0 in
      let call : Called g f (x, tt) b calls.0.0 = subst (λ h. Called g h (x, tt) b calls.0.0) begun calls.1.1 in
      let same : calls.0.0 ≡ f = keeps (x, tt) b calls.0.0 call in
      let at : (q : ℕ) → contains calls.0.1 q ≡ (contains u.1 q && (not (q == bit x) || b)) = λ q. one_kept u.1 calls.0.1 b (bit x) q calls.1.2 in
      let from : (q : ℕ) → is_in q (map bit xs) ≡ true → (q == bit x) ≡ false = λ q one. let above = is_in_from (suc (bit x)) q (map bit xs) ascends.1 one in grind (arith, nat_tests) in
      let later = each_call (suc (bit x)) xs calls.0 v same ascends.1 (λ q one. let apart = from q one in let here = inside q in let next = at q in grind (arith, nat_tests)) calls.2 in (
        (λ q none. let rest = later.0 q in let next = at q in grind (arith, nat_tests)),
        λ q. elim (q == bit x) as (λ t. (q == bit x) ≡ t → (t || is_in q (map bit xs)) ≡ true → CalledWith q (contains v.1 q)) [
          | true ↦ λ e _.
              let is = eqb-true q (bit x) e in
              let last : is_in q (map bit xs) ≡ false = is_in_below (suc (bit x)) q (map bit xs) ascends.1 (omega (arith, is)) in
              let rest = later.0 q last in
              let next = at q in
              let here = inside q in
              subst (CalledWith q) (grind (arith, nat_tests)) (x, sym is, subst (λ h. Called g f (x, tt) b h) same call)
          | false ↦ λ _ one. later.1 q one
        ] refl,
      )

  pub selected : (s t : BitSet) → Retains bit g f s t → Selects bit (λ t b. Called g f (t, tt) b f) s t
  selected s t calls =
      let list : map bit calls.1.0 ≡ ascending s = calls.1.1 in
      let inside : (q : ℕ) → is_in q (map bit calls.1.0) ≡ contains s q = λ q. ap (is_in q) list ∙ sym (contains_ascending s q) in
      let each = each_call 0 calls.1.0 (f, s) (calls.0, t) refl (subst (AscendsFrom 0) (sym list) (ascending_ascends s)) (λ q one. sym (inside q) ∙ one) calls.1.2 in
      (left bit g f s t calls, λ q one. each.1 q (inside q ∙ one))
