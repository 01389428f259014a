-- What an iterator with a filter yields: the items that its closure selects, ascending by bit.
--     after_step, after_step_back      the bits that a step leaves ascend, and they are no more than before
--     counted, collected      what `count` and `collect` return
--     bits_collected      what `collect` returns, of elements
use Rattle.std.proofs.Common.{◌≡◌, ℕ, suc, length, Option, ◌==◌, Bool, true, false, true≢false, ◌||◌, List, [], ◌∷◌, ◌++◌, map, Some, None, Result, Ok, Err, IfOk, refl, sym, ap, subst, ◌∙◌, arith, eqb-true}
use Rattle.std.proofs.lemmas.Bool.Decides.{nat_tests}
use Rattle.std.specs.Fn.{Mut, CalledAt}
use Rattle.std.specs.Iterator.{Yields, Drains, DrainsIf}
use Rattle.std.specs.Iterator.Adapters.{filter_source, filter_callee, filter_steps}
use Rattle.std.specs.Iterator.Runs.{CallKeepsClosure}
use Rattle.std.specs.List.{FoldsTo}
use Rattle.std.specs.declared.iter.Filter.{Filter}
use denote.Ref.{Bor}
use Rattle.enumset_repr.specs.Asks.{IterView}
use Rattle.enumset_repr.specs.BitSet.{BitSet, is_in, contains, from_list, ascending, len}
use Rattle.enumset_repr.specs.Laws.Ascending.{len_ascending, AscendsFrom, ascending_is, is_in_from, is_in_below}
use Rattle.enumset_repr.specs.Laws.Algebra.{from_list_ascending}
use Rattle.enumset_repr.specs.Laws.Members.{contains_from_list, contains_is_subset, same_set}
use Rattle.enumset_sets.specs.Calls.{GivesAt, IsLenOf, Selects, SelectsAt, steps}
use Rattle.enumset_sets.specs.Laws.Calls.{each, bits_first, listed_bits, is_in_append, all_yielded, yielded_up_to, middle_above, is_in_middle, FewAscend, few_none, few_first, few_last, HaveBits, length_bits, TakesFirst, TakesLast}

ascends_rest : (k m : ℕ) (front bs : List ℕ) → AscendsFrom k (front ++ m ∷ bs) → AscendsFrom (suc m) bs
ascends_rest k m [] bs ascends = ascends.1
ascends_rest k m (b ∷ front) bs ascends = ascends_rest (suc b) m front bs ascends.1

few_rest : (m : ℕ) (front bs : List ℕ) → FewAscend (front ++ m ∷ bs) → FewAscend bs
few_rest m [] bs few = few_first m (m ∷ bs) bs refl few
few_rest m (b ∷ front) bs few = few_rest m front bs (few_first b (b ∷ front ++ m ∷ bs) (front ++ m ∷ bs) refl few)

-- ---- what a step leaves

module _ {F A : Type 0} (Has : A → ℕ → Type 0) (Steps : IterView → Option A → IterView → Type 0) (g : Mut F (Bor A × Unit {0}) Bool) where
  pub after_step : TakesFirst Has Steps → (s t : Filter IterView F) (r : Option A) → filter_steps Steps g s r t → FewAscend (filter_source s).items → FewAscend (filter_source t).items
  after_step takes s t None step few = few_none (filter_source t).items (takes.none step.2.0 (filter_source t) step.2.2).1
  after_step takes s t (Some y) step few =
      let at = yielded_up_to Has Steps takes step.0 y (filter_source s) (filter_source t) step.2 in
      few_rest at.1 at.0 (filter_source t).items (subst FewAscend at.4 few)

  one_back : TakesLast Has Steps → (i j : IterView) (r : Option A) → Steps i r j → FewAscend i.items → FewAscend j.items
  one_back takes i j None step few = few_none j.items (takes.none i j step).1
  one_back takes i j (Some x) step few = let here = takes.some i x j step in few_last here.0 i.items j.items here.2 few

  some_back : TakesLast Has Steps → (xs : List A) (i j : IterView) → Yields Steps i xs j → FewAscend i.items → FewAscend j.items
  some_back takes [] i j same few = subst (λ k. FewAscend k.items) same few
  some_back takes (x ∷ xs) i j run few = some_back takes xs run.0 j run.2 (one_back takes i run.0 (Some x) run.1 few)

  pub after_step_back : TakesLast Has Steps → (s t : Filter IterView F) (r : Option A) → filter_steps Steps g s r t → FewAscend (filter_source s).items → FewAscend (filter_source t).items
  after_step_back takes s t r step few =
      let run = step.2 in
      one_back takes run.0 (filter_source t) r run.2 (some_back takes step.0 (filter_source s) run.0 run.1 few)

-- ---- what is selected

module _ {F A : Type 0} (Has : A → ℕ → Type 0) (Steps : IterView → Option A → IterView → Type 0) (takes : TakesFirst Has Steps) (g : Mut F (Bor A × Unit {0}) Bool) (f : F) (keeps : CallKeepsClosure g f) where
  kept : (x : A) (b : Bool) (k : F) → CalledAt g f x b k → k ≡ f
  kept x b k call = keeps (call.shown, tt) b k call.called

  abbrev CalledWith : ℕ → Bool → Type 0
  CalledWith q b = GivesAt Has (λ x r. CalledAt g f x r f) q b

  -- of a list of bits, the second list has those for which a call returns true
  pub record Picks (k : ℕ) (bs cs : List ℕ) : Type 0 where
    pub ascends : AscendsFrom k cs
    pub within : (q : ℕ) → is_in q cs ≡ true → is_in q bs ≡ true
    pub gives : (q : ℕ) → is_in q bs ≡ true → GivesAt Has (λ x r. CalledAt g f x r f) q (is_in q cs)

  none_picked : (k : ℕ) (xs : List A) (last : F) (bs : List ℕ) → HaveBits Has xs bs → FoldsTo (λ p x q. CalledAt g p x false q) f xs last → Picks k bs []
  none_picked k xs last bs have calls = record {
    ascends = tt;
    within = λ q one. absurd (true≢false (sym one));
    gives = λ q one. (each Has (CalledAt g) f kept false xs bs f last have refl calls).1 q one;
  }

  -- the calls for the first items returned false, the next one true, and the others are picked
  one_picked : (k : ℕ) (xs : List A) (front : List ℕ) (last : F) (y : A) (m : ℕ) (h : F) (rest cs : List ℕ) → HaveBits Has xs front → Has y m → AscendsFrom k (front ++ m ∷ rest) → FoldsTo (λ p x q. CalledAt g p x false q) f xs last → CalledAt g last y true h → Picks (suc m) rest cs → Picks k (front ++ m ∷ rest) (m ∷ cs)
  one_picked k xs front last y m h rest cs have has ascends calls call later = record {
    ascends = (is_in_from k m (front ++ m ∷ rest) ascends (is_in_middle m front rest), later.ascends);
    within = λ q one. is_in_append q front (m ∷ rest) ∙ (let inside = later.within q in grind (arith, nat_tests));
    gives = λ q one. by q (sym (is_in_append q front (m ∷ rest)) ∙ one) (is_in q front) refl (q == m) refl;
  }
    where
      before : (last ≡ f) × ((q : ℕ) → is_in q front ≡ true → CalledWith q false)
      before = each Has (CalledAt g) f kept false xs front f last have refl calls

      here : CalledAt g f y true f
      here = let first = subst (λ p. CalledAt g p y true h) before.0 call in subst (CalledAt g f y true) (kept y true h first) first

      by : (q : ℕ) → (is_in q front || is_in q (m ∷ rest)) ≡ true → (a : Bool) → is_in q front ≡ a → (b : Bool) → (q == m) ≡ b → CalledWith q (is_in q (m ∷ cs))
      by q one true inside b same =
          let less = middle_above k m q front rest ascends inside in
          let none = is_in_below (suc m) q cs later.ascends in
          subst (CalledWith q) (grind (arith, nat_tests)) (before.1 q inside)
      by q one false outside true same = subst (CalledWith q) (grind arith) (y, subst (Has y) (sym (eqb-true q m same)) has, here)
      by q one false outside false other = subst (CalledWith q) (grind arith) (later.gives q (grind arith))

  abbrev Picked : ℕ → List A → List ℕ → Type 0
  Picked k ys bs = (cs : List ℕ) × HaveBits Has ys cs × Picks k bs cs

  picked : (k : ℕ) (ys : List A) (s : Filter IterView F) → filter_callee s ≡ f → AscendsFrom k (filter_source s).items → Drains (filter_steps Steps g) s ys → Picked k ys (filter_source s).items
  picked k [] s is ascends run =
      let step = subst (λ t. filter_steps Steps g t None run.0) (sym run.1.1) run.1.2 in
      ([], tt, none_picked k step.0 step.1 (filter_source s).items (all_yielded Has Steps takes step.0 _ _ step.2) (subst (λ p. FoldsTo (λ p x q. CalledAt g p x false q) p step.0 step.1) is step.3))
  picked k (y ∷ ys) s is ascends run =
      let step = run.1.1.1 in
      let next = run.1.1.0 in
      let calls = subst (λ p. FoldsTo (λ p x q. CalledAt g p x false q) p step.0 step.1) is step.3 in
      let at = yielded_up_to Has Steps takes step.0 y (filter_source s) (filter_source next) step.2 in
      let all = subst (AscendsFrom k) at.4 ascends in
      let same = (each Has (CalledAt g) f kept false step.0 at.0 f step.1 at.2 refl calls).0 in
      let first = subst (λ p. CalledAt g p y true (filter_callee next)) same step.4 in
      let later = picked (suc at.1) ys next (kept y true _ first) (ascends_rest k at.1 at.0 (filter_source next).items all) (run.0, (run.1.0, run.1.1.2, run.1.2)) in
      let picks = one_picked k step.0 at.0 step.1 y at.1 _ (filter_source next).items later.0 at.2 at.3 all calls step.4 later.2 in
      (at.1 ∷ later.0, (at.3, later.1), subst (λ bs. Picks k bs (at.1 ∷ later.0)) (sym at.4) picks)

  pub selected : (ys : List A) (s : Filter IterView F) → filter_callee s ≡ f → AscendsFrom 0 (filter_source s).items → Drains (filter_steps Steps g) s ys → (cs : List ℕ) × HaveBits Has ys cs × SelectsAt Has (λ x r. CalledAt g f x r f) (from_list (filter_source s).items) (from_list cs) × (ascending (from_list cs) ≡ cs)
  selected ys s is ascends run =
      let all = picked 0 ys s is ascends run in
      let cs = all.0 in
      let given = λ (q : ℕ) (one : contains (from_list (filter_source s).items) q ≡ true). all.2.gives q (sym (contains_from_list (filter_source s).items q) ∙ one) in (
        cs,
        all.1,
        (
          contains_is_subset _ _ (λ q one. contains_from_list (filter_source s).items q ∙ all.2.within q (sym (contains_from_list cs q) ∙ one)),
          λ q one. subst (CalledWith q) (sym (contains_from_list cs q)) (given q one),
        ),
        ascending_is (from_list cs) cs all.2.ascends (contains_from_list cs),
      )

  module _ (s : Filter IterView F) (is : filter_callee s ≡ f) (ascends : AscendsFrom 0 (filter_source s).items) where
    pub counted : (n : ℕ) → ((ys : List A) × Drains (filter_steps Steps g) s ys × (n ≡ length ys)) → (u : BitSet) × SelectsAt Has (λ x r. CalledAt g f x r f) (from_list (filter_source s).items) u × IsLenOf u n
    counted n ran =
        let all = selected ran.0 s is ascends ran.1 in
        (from_list all.0, all.2, λ t same. ran.2 ∙ length_bits Has ran.0 all.0 all.1 ∙ sym (ap len (same_set t _ same) ∙ len_ascending (from_list all.0) ∙ ap length all.3))

    pub collected : {B E : Type 0} (IsComplete : B → Type 0) (Gives : List A → B → Type 0) (r : Result B E) → IfOk r (λ v. (ys : List A) × DrainsIf (filter_steps Steps g) (IsComplete v) s ys × Gives ys v) → IfOk r (λ v. IsComplete v → (u : BitSet) × (ys : List A) × SelectsAt Has (λ x r. CalledAt g f x r f) (from_list (filter_source s).items) u × HaveBits Has ys (ascending u) × Gives ys v)
    collected IsComplete Gives (Ok v) ran = λ whole.
        let end = ran.1.2 whole in
        let all = selected ran.0 s is ascends (end.0, (ran.1.0, ran.1.1, end.1)) in
        (from_list all.0, ran.0, all.2, subst (HaveBits Has ran.0) (sym all.3) all.1, ran.2)
    collected IsComplete Gives (Err e) ran = tt

module _ {F T : Type 0} (bit : T → ℕ) (g : Mut F (Bor T × Unit {0}) Bool) (f : F) (keeps : CallKeepsClosure g f) (s : Filter IterView F) (is : filter_callee s ≡ f) (ascends : AscendsFrom 0 (filter_source s).items) where
  pub bits_collected : {B E : Type 0} (IsComplete : B → Type 0) (Gives : List T → B → Type 0) (r : Result B E) → IfOk r (λ v. (ys : List T) × DrainsIf (filter_steps (steps bit) g) (IsComplete v) s ys × Gives ys v) → IfOk r (λ v. IsComplete v → (u : BitSet) × (ys : List T) × Selects bit (λ t b. CalledAt g f t b f) (from_list (filter_source s).items) u × (map bit ys ≡ ascending u) × (from_list (map bit ys) ≡ u) × Gives ys v)
  bits_collected {E = E} IsComplete Gives (Ok v) ran = λ whole.
      let all = collected _ _ (bits_first bit) g f keeps s is ascends {E = E} IsComplete Gives (Ok v) ran whole in
      let items = listed_bits bit all.1 (ascending all.0) all.3 in
      (all.0, all.1, all.2, items, ap from_list items ∙ from_list_ascending all.0, all.4)
  bits_collected IsComplete Gives (Err e) ran = tt
