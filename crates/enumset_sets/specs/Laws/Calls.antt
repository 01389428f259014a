-- What the calls of a closure for the items that an iterator yields say of the bits that it had left. `Has x b` says
-- that the item x has the bit b.
--     HaveBits      the items of a list have the numbers of another as their bits
--     length_bits, map_bits      the two lists are equally long;  what is seen of the items is what is seen of the bits
--     TakesFirst, TakesLast      a step takes out the first bit left, and yields an item that has it;  the same of the
--         last bit
--     bits_first, bits_last      an iterator over elements is such a one
--     FewAscend      a list ascends, and has fewer than 2^32 numbers
--     few_none, few_first, few_last      so does the empty list, and what is left without the first or the last number
--     len_left, last_item, shown_option      of the set of what is left: how many members it has, and the item of its
--         greatest;  an `Option` of an item as one of its bit
--     each      the calls for a list of items
--     before_middle, len_before      the numbers before one of an ascending list
--     all_clause, any_clause, find_clause, position_clause, rfind_clause, collected      what these calls return
--     bit_find, bit_rfind, bit_position, bit_last, bits_collected      what these calls return, of elements
use Rattle.std.proofs.Common.{◌≡◌, ◌≤◌, ◌<◌, ◌^◌, ℕ, suc, ◌==◌, Bool, true, false, true≢false, ◌||◌, List, [], ◌∷◌, ◌++◌, map, length, Option, Some, None, MatchOption, Result, Ok, Err, IfOk, refl, sym, ap, subst, ◌∙◌, arith, eqb-true, eq-eqb, nat_lt, ◌&&◌}
use Rattle.std.proofs.lemmas.Bool.{or_left, or_right}
use Rattle.std.proofs.lemmas.Bool.Decides.{nat_tests}
use Rattle.std.specs.Bool.{MatchBool}
use Rattle.std.specs.Fn.{Mut, Called, CalledAt}
use Rattle.std.specs.Iterator.{Yields, YieldsThen, DrainsIf, ChecksAll, ChecksAny, FindsPosition, FindsItem}
use Rattle.std.specs.Iterator.Runs.{CallKeepsClosure}
use Rattle.std.specs.List.{FoldsTo}
use Rattle.std.specs.Option.{option_map}
use denote.Ref.{Bor}
use Rattle.enumset_repr.specs.Asks.{IterView}
use Rattle.enumset_repr.specs.BitSet.{BitSet, is_in, contains, ascending, from_list, len, low}
use Rattle.enumset_repr.specs.Ends.{greatest}
use Rattle.enumset_repr.specs.Laws.Ascending.{AscendsFrom, ascending_is, ascends_lower, is_in_from, is_in_below, len_ascending}
use Rattle.enumset_repr.specs.Laws.Ends.{greatest_empty}
use Rattle.enumset_repr.specs.Laws.Firsts.{last_is_greatest}
use Rattle.enumset_repr.specs.Laws.Members.{contains_from_list, contains_low}
use Rattle.enumset_sets.specs.Calls.{GivesAt, EachGives, EachGivesAt, OneGivesAt, steps, steps_back}

-- ---- the bits

append_none : (bs : List ℕ) → bs ++ [] ≡ bs
append_none [] = refl
append_none (b ∷ bs) = ap (λ cs. b ∷ cs) (append_none bs)

append_append : (front bs cs : List ℕ) → (front ++ bs) ++ cs ≡ front ++ (bs ++ cs)
append_append [] bs cs = refl
append_append (a ∷ front) bs cs = ap (λ ds. a ∷ ds) (append_append front bs cs)

pub is_in_append : (q : ℕ) (bs cs : List ℕ) → is_in q (bs ++ cs) ≡ (is_in q bs || is_in q cs)
is_in_append q [] cs = refl
is_in_append q (b ∷ bs) cs = let later = is_in_append q bs cs in grind (arith, nat_tests, later)

pub is_in_middle : (m : ℕ) (front bs : List ℕ) → is_in m (front ++ m ∷ bs) ≡ true
is_in_middle m [] bs = or_left (m == m) _ (eq-eqb m m refl)
is_in_middle m (a ∷ front) bs = or_right (m == a) _ (is_in_middle m front bs)

-- in an ascending list, the numbers less than m are those before m
pub before_middle : (k m q : ℕ) (front bs : List ℕ) → AscendsFrom k (front ++ m ∷ bs) → q < m → is_in q (front ++ m ∷ bs) ≡ is_in q front
before_middle k m q [] bs ascends less = let none = is_in_below (suc m) q bs ascends.1 in grind (arith, nat_tests)
before_middle k m q (a ∷ front) bs ascends less = ap (λ t. (q == a) || t) (before_middle (suc a) m q front bs ascends.1 less)

pub middle_above : (k m q : ℕ) (front bs : List ℕ) → AscendsFrom k (front ++ m ∷ bs) → is_in q front ≡ true → q < m
middle_above k m q [] bs ascends one = absurd (true≢false (sym one))
middle_above k m q (a ∷ front) bs ascends one =
    let above = is_in_from (suc a) m (front ++ m ∷ bs) ascends.1 (is_in_middle m front bs) in
    let later = middle_above (suc a) m q front bs ascends.1 in
    grind (arith, nat_tests)

pub ascends_front : (k m : ℕ) (front bs : List ℕ) → AscendsFrom k (front ++ m ∷ bs) → AscendsFrom k front
ascends_front k m [] bs ascends = tt
ascends_front k m (a ∷ front) bs ascends = (ascends.0, ascends_front (suc a) m front bs ascends.1)

-- in an ascending list, what is greater than a number of it comes after it
after_middle : (k m q : ℕ) (front bs : List ℕ) → AscendsFrom k (front ++ m ∷ bs) → m < q → is_in q (front ++ m ∷ bs) ≡ is_in q bs
after_middle k m q [] bs ascends less = grind (arith, nat_tests)
after_middle k m q (a ∷ front) bs ascends less =
    let here = is_in_from (suc a) m (front ++ m ∷ bs) ascends.1 (is_in_middle m front bs) in
    let later = after_middle (suc a) m q front bs ascends.1 less in
    grind (arith, nat_tests)

len_before : (m : ℕ) (front bs : List ℕ) → AscendsFrom 0 (front ++ m ∷ bs) → len (low (from_list (front ++ m ∷ bs)) m) ≡ length front
len_before m front bs ascends =
    let all = front ++ m ∷ bs in
    let same : (q : ℕ) → contains (low (from_list all) m) q ≡ is_in q front =
    λ q.
    let one = contains_low (from_list all) m q ∙ ap (λ t. t && nat_lt q m) (contains_from_list all q) in
    let less = before_middle 0 m q front bs ascends in
    let above = middle_above 0 m q front bs ascends in
    grind (arith, nat_tests)
    in
    len_ascending _ ∙ ap length (ascending_is _ front (ascends_front 0 m front bs ascends) same)

-- ---- what a step leaves

abbrev pub FewAscend : List ℕ → Type 0
FewAscend bs = AscendsFrom 0 bs × (length bs < 2 ^ 32)

length_push : (b : ℕ) (bs : List ℕ) → length bs ≤ length (bs ++ b ∷ [])
length_push b [] = omega arith
length_push b (c ∷ bs) = let later = length_push b bs in omega (arith, later)

pub few_none : (bs : List ℕ) → bs ≡ [] → FewAscend bs
few_none bs none = subst FewAscend (sym none) (tt, omega arith)

pub few_first : (b : ℕ) (bs cs : List ℕ) → bs ≡ b ∷ cs → FewAscend bs → FewAscend cs
few_first b bs cs is few =
    let all : AscendsFrom 0 (b ∷ cs) = subst (AscendsFrom 0) is few.0 in
    (ascends_lower 0 (suc b) cs (omega arith) all.1, omega (arith, few.1, ap length is))

pub few_last : (b : ℕ) (bs cs : List ℕ) → bs ≡ cs ++ b ∷ [] → FewAscend bs → FewAscend cs
few_last b bs cs is few =
    let shorter = length_push b cs in
    (ascends_front 0 b cs [] (subst (AscendsFrom 0) is few.0), omega (arith, few.1, ap length is, shorter))

-- ---- the items

abbrev pub HaveBits : {A : Type 0} → (A → ℕ → Type 0) → List A → List ℕ → Type 0
HaveBits Has [] [] = Unit {0}
HaveBits Has [] (b ∷ bs) = ⊥
HaveBits Has (x ∷ xs) [] = ⊥
HaveBits Has (x ∷ xs) (b ∷ bs) = Has x b × HaveBits Has xs bs

pub length_bits : {A : Type 0} (Has : A → ℕ → Type 0) (xs : List A) (bs : List ℕ) → HaveBits Has xs bs → length xs ≡ length bs
length_bits Has [] [] have = refl
length_bits Has [] (b ∷ bs) have = absurd have
length_bits Has (x ∷ xs) [] have = absurd have
length_bits Has (x ∷ xs) (b ∷ bs) have = ap suc (length_bits Has xs bs have.1)

pub map_bits : {A B : Type 0} (view : A → B) (shown : ℕ → B) (xs : List A) (bs : List ℕ) → HaveBits (λ x b. view x ≡ shown b) xs bs → map view xs ≡ map shown bs
map_bits view shown [] [] have = refl
map_bits view shown [] (b ∷ bs) have = absurd have
map_bits view shown (x ∷ xs) [] have = absurd have
map_bits view shown (x ∷ xs) (b ∷ bs) have = ap (λ v. v ∷ map view xs) have.0 ∙ ap (λ vs. shown b ∷ vs) (map_bits view shown xs bs have.1)

map_same : (bs : List ℕ) → map (λ b. b) bs ≡ bs
map_same [] = refl
map_same (b ∷ bs) = ap (λ cs. b ∷ cs) (map_same bs)

pub record TakesFirst {A : Type 0} (Has : A → ℕ → Type 0) (Steps : IterView → Option A → IterView → Type 0) : Type 0 where
  pub none : (i j : IterView) → Steps i None j → (i.items ≡ []) × (j.items ≡ [])
  pub some : (i : IterView) (x : A) (j : IterView) → Steps i (Some x) j → (b : ℕ) × Has x b × (i.items ≡ b ∷ j.items)

pub record TakesLast {A : Type 0} (Has : A → ℕ → Type 0) (Steps : IterView → Option A → IterView → Type 0) : Type 0 where
  pub none : (i j : IterView) → Steps i None j → (i.items ≡ []) × (j.items ≡ [])
  pub some : (i : IterView) (x : A) (j : IterView) → Steps i (Some x) j → (b : ℕ) × Has x b × (i.items ≡ j.items ++ b ∷ [])

pub bits_first : {T : Type 0} (bit : T → ℕ) → TakesFirst (λ t q. bit t ≡ q) (steps bit)
bits_first bit = record { none = λ i j step. step.0; some = λ i x j step. (bit x, refl, step.0) }

pub bits_last : {T : Type 0} (bit : T → ℕ) → TakesLast (λ t q. bit t ≡ q) (steps_back bit)
bits_last bit = record { none = λ i j step. step.0; some = λ i x j step. (bit x, refl, step.0) }

-- ---- the set of what is left

module _ (bs : List ℕ) (ascends : AscendsFrom 0 bs) where
  listed_left : ascending (from_list bs) ≡ bs
  listed_left = ascending_is (from_list bs) bs ascends (contains_from_list bs)

  pub len_left : len (from_list bs) ≡ length bs
  len_left = len_ascending (from_list bs) ∙ ap length listed_left

  last_left : (b : ℕ) (cs : List ℕ) → bs ≡ cs ++ b ∷ [] → greatest (from_list bs) ≡ Some b
  last_left b cs is = last_is_greatest (from_list bs) b cs (listed_left ∙ is)

none_left : (bs : List ℕ) → bs ≡ [] → greatest (from_list bs) ≡ None
unfolding from_list
none_left bs none = ap (λ cs. greatest (from_list cs)) none ∙ greatest_empty

pub last_item : {A : Type 0} (Has : A → ℕ → Type 0) (Steps : IterView → Option A → IterView → Type 0) (takes : TakesLast Has Steps) (i j : IterView) (r : Option A) → Steps i r j → AscendsFrom 0 i.items → MatchOption r (greatest (from_list i.items) ≡ None) (λ x. (b : ℕ) × Has x b × (greatest (from_list i.items) ≡ Some b))
last_item Has Steps takes i j None step ascends = none_left i.items (takes.none i j step).0
last_item Has Steps takes i j (Some x) step ascends = let here = takes.some i x j step in (here.0, here.1, last_left i.items ascends here.0 j.items here.2)

pub shown_option : {A B : Type 0} (view : A → B) (shown : ℕ → B) (o : Option ℕ) (r : Option A) → MatchOption r (o ≡ None) (λ x. (b : ℕ) × (view x ≡ shown b) × (o ≡ Some b)) → option_map view r ≡ option_map shown o
shown_option view shown o None none = sym (ap (option_map shown) none)
shown_option view shown o (Some x) one = ap Some one.1 ∙ sym (ap (option_map shown) one.2)

same_option : (o : Option ℕ) → option_map (λ b. b) o ≡ o
same_option None = refl
same_option (Some b) = refl

-- ---- the calls

module _ {F A : Type 0} (Has : A → ℕ → Type 0) (call : F → A → Bool → F → Type 0) (f : F) (keeps : (x : A) (b : Bool) (k : F) → call f x b k → k ≡ f) (b : Bool) where
  pub each : (xs : List A) (bs : List ℕ) (g last : F) → HaveBits Has xs bs → g ≡ f → FoldsTo (λ p x q. call p x b q) g xs last → (last ≡ f) × ((q : ℕ) → is_in q bs ≡ true → GivesAt Has (λ x r. call f x r f) q b)
  each [] [] g last have is same = (sym same ∙ is, λ q one. absurd (true≢false (sym one)))
  each [] (m ∷ bs) g last have is same = absurd have
  each (x ∷ xs) [] g last have is calls = absurd have
  each (x ∷ xs) (m ∷ bs) g last have is calls =
      let here : call f x b calls.0 = subst (λ h. call h x b calls.0) is calls.1 in
      let kept : calls.0 ≡ f = keeps x b calls.0 here in
      let later = each xs bs calls.0 last have.1 kept calls.2 in (
        later.0,
        λ q. elim (q == m) as (λ t. (q == m) ≡ t → (t || is_in q bs) ≡ true → GivesAt Has (λ x r. call f x r f) q b) [
          | true ↦ λ e _. (x, subst (Has x) (sym (eqb-true q m e)) have.0, subst (λ h. call f x b h) kept here)
          | false ↦ λ _ one. later.1 q one
        ] refl,
      )

-- ---- the iterator

module _ {A : Type 0} (Has : A → ℕ → Type 0) (Steps : IterView → Option A → IterView → Type 0) (takes : TakesFirst Has Steps) where
  yielded : (xs : List A) (i j : IterView) → Yields Steps i xs j → (bs : List ℕ) × HaveBits Has xs bs × (i.items ≡ bs ++ j.items)
  yielded [] i j same = ([], tt, ap (λ k. k.items) same)
  yielded (x ∷ xs) i j run =
      let here = takes.some i x run.0 run.1 in
      let later = yielded xs run.0 j run.2 in
      (here.0 ∷ later.0, (here.1, later.1), here.2 ∙ ap (λ cs. here.0 ∷ cs) later.2)

  pub all_yielded : (xs : List A) (i j : IterView) → YieldsThen Steps i xs None j → HaveBits Has xs i.items
  all_yielded xs i j run =
      let front = yielded xs i run.0 run.1 in
      let items : i.items ≡ front.0 = front.2 ∙ ap (λ cs. front.0 ++ cs) (takes.none run.0 j run.2).0 ∙ append_none front.0 in
      subst (HaveBits Has xs) (sym items) front.1

  -- the items before one, and this one, have bits: those that were left are these bits, and then what is left now
  pub yielded_up_to : (xs : List A) (x : A) (i j : IterView) → YieldsThen Steps i xs (Some x) j → (bs : List ℕ) × (m : ℕ) × HaveBits Has xs bs × Has x m × (i.items ≡ bs ++ m ∷ j.items)
  yielded_up_to xs x i j run =
      let front = yielded xs i run.0 run.1 in
      let here = takes.some run.0 x j run.2 in
      (front.0, here.0, front.1, here.1, front.2 ∙ ap (λ cs. front.0 ++ cs) here.2)

  module _ {F : Type 0} (call : F → A → Bool → F → Type 0) (f : F) (keeps : (x : A) (b : Bool) (k : F) → call f x b k → k ≡ f) (b : Bool) (xs : List A) (last : F) (i j : IterView) (calls : FoldsTo (λ p x q. call p x b q) f xs last) where
    pub all_passed : YieldsThen Steps i xs None j → EachGivesAt Has (λ x r. call f x r f) (from_list i.items) b
    all_passed run q one = (each Has call f keeps b xs i.items f last (all_yielded xs i j run) refl calls).1 q (sym (contains_from_list i.items q) ∙ one)

    module _ (x : A) (run : YieldsThen Steps i xs (Some x) j) where
      abbrev at : (bs : List ℕ) × (m : ℕ) × HaveBits Has xs bs × Has x m × (i.items ≡ bs ++ m ∷ j.items)
      at = yielded_up_to xs x i j run

      pub is_left : contains (from_list i.items) at.1 ≡ true
      is_left = contains_from_list i.items at.1 ∙ ap (is_in at.1) at.4 ∙ is_in_middle at.1 at.0 j.items

      pub at_stop : (r : Bool) (h : F) → call last x r h → call f x r f
      at_stop r h one =
          let here = subst (λ g. call g x r h) (each Has call f keeps b xs at.0 f last at.2 refl calls).0 one in
          subst (λ g. call f x r g) (keeps x r h here) here

      pub stopped : (r : Bool) (h : F) → call last x r h → OneGivesAt Has (λ x r. call f x r f) (from_list i.items) r
      stopped r h one = (at.1, is_left, x, at.3, at_stop r h one)

      module _ (ascends : AscendsFrom 0 i.items) where
        from : AscendsFrom 0 (at.0 ++ at.1 ∷ j.items)
        from = subst (AscendsFrom 0) at.4 ascends

        pub before : (q : ℕ) → contains (from_list i.items) q ≡ true → q < at.1 → GivesAt Has (λ x r. call f x r f) q b
        before q one less = (each Has call f keeps b xs at.0 f last at.2 refl calls).1 q (sym (before_middle 0 at.1 q at.0 j.items from less) ∙ ap (is_in q) (sym at.4) ∙ sym (contains_from_list i.items q) ∙ one)

        pub place : length xs ≡ len (low (from_list i.items) at.1)
        place = length_bits Has xs at.0 at.2 ∙ sym (ap (λ bs. len (low (from_list bs) at.1)) at.4 ∙ len_before at.1 at.0 j.items from)

-- ---- the clauses

module _ {A : Type 0} (Has : A → ℕ → Type 0) (Steps : IterView → Option A → IterView → Type 0) (takes : TakesFirst Has Steps) where
  pub collected : {B E : Type 0} (i : IterView) (IsComplete : B → Type 0) (Gives : List A → B → Type 0) (r : Result B E) → IfOk r (λ v. (xs : List A) × DrainsIf Steps (IsComplete v) i xs × Gives xs v) → IfOk r (λ v. IsComplete v → (xs : List A) × HaveBits Has xs i.items × Gives xs v)
  collected i IsComplete Gives (Ok v) ran = λ whole. let end = ran.1.2 whole in (ran.0, all_yielded Has Steps takes ran.0 i end.0 (ran.1.0, ran.1.1, end.1), ran.2)
  collected i IsComplete Gives (Err e) ran = tt

  module _ {F : Type 0} (g : Mut F (A × Unit {0}) Bool) (f : F) (i j : IterView) (keeps : CallKeepsClosure g f) where
    kept : (x : A) (b : Bool) (k : F) → Called g f (x, tt) b k → k ≡ f
    kept x b k call = keeps (x, tt) b k call

    pub all_clause : (r : Bool) → ChecksAll Steps g i f r j → MatchBool r (EachGivesAt Has (λ x b. Called g f (x, tt) b f) (from_list i.items) true) (OneGivesAt Has (λ x b. Called g f (x, tt) b f) (from_list i.items) false)
    all_clause r ran = by ran.1 ran.3 r ran.5 where
      by : (o : Option A) → YieldsThen Steps i ran.0 o j → (r : Bool) → MatchOption o (r ≡ true) (λ x. (r ≡ false) × ((k : F) × Called g ran.2 (x, tt) false k)) → MatchBool r (EachGivesAt Has (λ x b. Called g f (x, tt) b f) (from_list i.items) true) (OneGivesAt Has (λ x b. Called g f (x, tt) b f) (from_list i.items) false)
      by None run true end = all_passed Has Steps takes (λ h x b k. Called g h (x, tt) b k) f kept true ran.0 ran.2 i j ran.4 run
      by None run false end = absurd (true≢false (sym end))
      by (Some x) run true end = absurd (true≢false end.0)
      by (Some x) run false end = stopped Has Steps takes (λ h x b k. Called g h (x, tt) b k) f kept true ran.0 ran.2 i j ran.4 x run false end.1.0 end.1.1

    pub any_clause : (r : Bool) → ChecksAny Steps g i f r j → MatchBool r (OneGivesAt Has (λ x b. Called g f (x, tt) b f) (from_list i.items) true) (EachGivesAt Has (λ x b. Called g f (x, tt) b f) (from_list i.items) false)
    any_clause r ran = by ran.1 ran.3 r ran.5 where
      by : (o : Option A) → YieldsThen Steps i ran.0 o j → (r : Bool) → MatchOption o (r ≡ false) (λ x. (r ≡ true) × ((k : F) × Called g ran.2 (x, tt) true k)) → MatchBool r (OneGivesAt Has (λ x b. Called g f (x, tt) b f) (from_list i.items) true) (EachGivesAt Has (λ x b. Called g f (x, tt) b f) (from_list i.items) false)
      by None run true end = absurd (true≢false end)
      by None run false end = all_passed Has Steps takes (λ h x b k. Called g h (x, tt) b k) f kept false ran.0 ran.2 i j ran.4 run
      by (Some x) run true end = stopped Has Steps takes (λ h x b k. Called g h (x, tt) b k) f kept false ran.0 ran.2 i j ran.4 x run true end.1.0 end.1.1
      by (Some x) run false end = absurd (true≢false (sym end.0))

    abbrev pub IsPlace : ℕ → Type 0
    IsPlace n = (x : A) × (p : ℕ) × Has x p × (contains (from_list i.items) p ≡ true) × Called g f (x, tt) true f × (n ≡ len (low (from_list i.items) p)) × ((q : ℕ) → contains (from_list i.items) q ≡ true → q < p → GivesAt Has (λ x b. Called g f (x, tt) b f) q false)

    pub position_clause : AscendsFrom 0 i.items → (r : Option ℕ) → FindsPosition Steps g i f r j → MatchOption r (EachGivesAt Has (λ x b. Called g f (x, tt) b f) (from_list i.items) false) IsPlace
    position_clause ascends r ran = by ran.1 ran.3 r ran.5 where
      by : (o : Option A) → YieldsThen Steps i ran.0 o j → (r : Option ℕ) → MatchOption o (r ≡ None) (λ x. (r ≡ Some (length ran.0)) × ((k : F) × Called g ran.2 (x, tt) true k)) → MatchOption r (EachGivesAt Has (λ x b. Called g f (x, tt) b f) (from_list i.items) false) IsPlace
      by None run r end = subst (λ r. MatchOption r (EachGivesAt Has (λ x b. Called g f (x, tt) b f) (from_list i.items) false) IsPlace) (sym end) (all_passed Has Steps takes (λ h x b k. Called g h (x, tt) b k) f kept false ran.0 ran.2 i j ran.4 run)
      by (Some x) run r end =
          let at = yielded_up_to Has Steps takes ran.0 x i j run in
          let here = is_left Has Steps takes (λ h x b k. Called g h (x, tt) b k) f kept false ran.0 ran.2 i j ran.4 x run in
          let passed = at_stop Has Steps takes (λ h x b k. Called g h (x, tt) b k) f kept false ran.0 ran.2 i j ran.4 x run true end.1.0 end.1.1 in
          let first = before Has Steps takes (λ h x b k. Called g h (x, tt) b k) f kept false ran.0 ran.2 i j ran.4 x run ascends in
          let many = place Has Steps takes (λ h x b k. Called g h (x, tt) b k) f kept false ran.0 ran.2 i j ran.4 x run ascends in
          subst (λ r. MatchOption r (EachGivesAt Has (λ x b. Called g f (x, tt) b f) (from_list i.items) false) IsPlace) (sym end.0) (x, at.1, at.3, here, passed, many, first)

-- x is the first or the last item for which a call returns true: of no bit q that comes before its bit p does one
abbrev pub IsFound : {A : Type 0} → (A → ℕ → Type 0) → (A → Bool → Type 0) → BitSet → (ℕ → ℕ → Type 0) → A → Type 0
IsFound Has call s Before x = (p : ℕ) × Has x p × (contains s p ≡ true) × call x true × ((q : ℕ) → contains s q ≡ true → Before q p → GivesAt Has call q false)

module _ {A F : Type 0} (Has : A → ℕ → Type 0) (Steps : IterView → Option A → IterView → Type 0) (g : Mut F (Bor A × Unit {0}) Bool) (f : F) (i j : IterView) (keeps : CallKeepsClosure g f) where
  kept_at : (x : A) (b : Bool) (k : F) → CalledAt g f x b k → k ≡ f
  kept_at x b k call = keeps (call.shown, tt) b k call.called

  pub find_clause : TakesFirst Has Steps → AscendsFrom 0 i.items → (r : Option A) → FindsItem Steps g i f r j → MatchOption r (EachGivesAt Has (λ x b. CalledAt g f x b f) (from_list i.items) false) (IsFound Has (λ x b. CalledAt g f x b f) (from_list i.items) (λ q p. q < p))
  find_clause takes ascends None ran = all_passed Has Steps takes (CalledAt g) f kept_at false ran.0 ran.1 i j ran.3 ran.2
  find_clause takes ascends (Some x) ran =
      let at = yielded_up_to Has Steps takes ran.0 x i j ran.2 in (
        at.1,
        at.3,
        is_left Has Steps takes (CalledAt g) f kept_at false ran.0 ran.1 i j ran.3 x ran.2,
        at_stop Has Steps takes (CalledAt g) f kept_at false ran.0 ran.1 i j ran.3 x ran.2 true ran.4.0 ran.4.1,
        before Has Steps takes (CalledAt g) f kept_at false ran.0 ran.1 i j ran.3 x ran.2 ascends,
      )

  -- the bits of the items that were yielded from the back stood behind those that are left
  abbrev StoodBehind : List A → IterView → IterView → Type 0
  StoodBehind xs i j = (bs : List ℕ) × (cs : List ℕ) × HaveBits Has xs cs × (i.items ≡ j.items ++ bs) × ((q : ℕ) → is_in q bs ≡ is_in q cs)

  yielded_back : TakesLast Has Steps → (xs : List A) (i j : IterView) → Yields Steps i xs j → StoodBehind xs i j
  yielded_back takes [] i j same = ([], [], tt, ap (λ k. k.items) same ∙ sym (append_none j.items), λ q. refl)
  yielded_back takes (x ∷ xs) i j run =
      let here = takes.some i x run.0 run.1 in
      let rest = yielded_back takes xs run.0 j run.2 in (
        rest.0 ++ here.0 ∷ [],
        here.0 ∷ rest.1,
        (here.1, rest.2),
        here.2 ∙ ap (λ bs. bs ++ here.0 ∷ []) rest.3 ∙ append_append j.items rest.0 (here.0 ∷ []),
        λ q. let each = rest.4 q in let append = is_in_append q rest.0 (here.0 ∷ []) in grind (arith, nat_tests),
      )

  pub rfind_clause : TakesLast Has Steps → AscendsFrom 0 i.items → (r : Option A) → FindsItem Steps g i f r j → MatchOption r (EachGivesAt Has (λ x b. CalledAt g f x b f) (from_list i.items) false) (IsFound Has (λ x b. CalledAt g f x b f) (from_list i.items) (λ q p. p < q))
  rfind_clause takes ascends None ran =
      let back = yielded_back takes ran.0 i ran.2.0 ran.2.1 in
      let calls = each Has (CalledAt g) f kept_at false ran.0 back.1 f ran.1 back.2 refl ran.3 in
      let none = (takes.none ran.2.0 j ran.2.2).0 in
      λ q one. calls.1 q (sym (back.4 q) ∙ ap (λ bs. is_in q (bs ++ back.0)) (sym none) ∙ ap (is_in q) (sym back.3) ∙ sym (contains_from_list i.items q) ∙ one)
  rfind_clause takes ascends (Some x) ran =
      let back = yielded_back takes ran.0 i ran.2.0 ran.2.1 in
      let calls = each Has (CalledAt g) f kept_at false ran.0 back.1 f ran.1 back.2 refl ran.3 in
      let here = takes.some ran.2.0 x j ran.2.2 in
      let items : i.items ≡ j.items ++ here.0 ∷ back.0 = back.3 ∙ ap (λ bs. bs ++ back.0) here.2 ∙ append_append j.items (here.0 ∷ []) back.0 in
      let first = subst (λ h. CalledAt g h x true ran.4.0) calls.0 ran.4.1 in (
        here.0,
        here.1,
        contains_from_list i.items here.0 ∙ ap (is_in here.0) items ∙ is_in_middle here.0 j.items back.0,
        subst (λ h. CalledAt g f x true h) (kept_at x true ran.4.0 first) first,
        λ q one less. calls.1 q (sym (back.4 q) ∙ sym (after_middle 0 here.0 q j.items back.0 (subst (AscendsFrom 0) items ascends) less) ∙ ap (is_in q) (sym items) ∙ sym (contains_from_list i.items q) ∙ one),
      )

-- ---- of elements, whose bits `bit` gives

module _ {T : Type 0} (bit : T → ℕ) where
  bit_found : (N : Type 0) (call : T → Bool → Type 0) (s : BitSet) (Before : ℕ → ℕ → Type 0) (r : Option T) → MatchOption r N (IsFound (λ t q. bit t ≡ q) call s Before) → MatchOption r N (λ t. (contains s (bit t) ≡ true) × call t true × ((q : ℕ) → contains s q ≡ true → Before q (bit t) → (u : T) × (bit u ≡ q) × call u false))
  bit_found N call s Before None none = none
  bit_found N call s Before (Some t) one = subst (λ p. (contains s p ≡ true) × call t true × ((q : ℕ) → contains s q ≡ true → Before q p → (u : T) × (bit u ≡ q) × call u false)) (sym one.1) (one.2, one.3, one.4)

  bit_placed : (N : Type 0) (call : T → Bool → Type 0) (s : BitSet) (r : Option ℕ) → MatchOption r N (λ n. (t : T) × (p : ℕ) × (bit t ≡ p) × (contains s p ≡ true) × call t true × (n ≡ len (low s p)) × ((q : ℕ) → contains s q ≡ true → q < p → (u : T) × (bit u ≡ q) × call u false)) → MatchOption r N (λ n. (t : T) × (contains s (bit t) ≡ true) × call t true × (n ≡ len (low s (bit t))) × ((q : ℕ) → contains s q ≡ true → q < bit t → (u : T) × (bit u ≡ q) × call u false))
  bit_placed N call s None none = none
  bit_placed N call s (Some n) one =
      let t = one.0 in
      let at = subst (λ p. (contains s p ≡ true) × (n ≡ len (low s p)) × ((q : ℕ) → contains s q ≡ true → q < p → (u : T) × (bit u ≡ q) × call u false)) (sym one.2) (one.3, one.5, one.6) in
      (t, at.0, one.4, at.1, at.2)

  pub bit_last : (o : Option ℕ) (r : Option T) → MatchOption r (o ≡ None) (λ t. (b : ℕ) × (bit t ≡ b) × (o ≡ Some b)) → option_map bit r ≡ o
  bit_last o r one = shown_option bit (λ b. b) o r one ∙ same_option o

  pub listed_bits : (ts : List T) (bs : List ℕ) → HaveBits (λ t q. bit t ≡ q) ts bs → map bit ts ≡ bs
  listed_bits ts bs have = map_bits bit (λ b. b) ts bs have ∙ map_same bs

  pub bits_collected : {B E : Type 0} (i : IterView) (IsComplete : B → Type 0) (Gives : List T → B → Type 0) (r : Result B E) → IfOk r (λ v. (ts : List T) × DrainsIf (steps bit) (IsComplete v) i ts × Gives ts v) → IfOk r (λ v. IsComplete v → (ts : List T) × (map bit ts ≡ i.items) × (from_list (map bit ts) ≡ from_list i.items) × Gives ts v)
  bits_collected {E = E} i IsComplete Gives (Ok v) ran = λ whole. let all = collected _ _ (bits_first bit) {E = E} i IsComplete Gives (Ok v) ran whole in let items = listed_bits all.0 i.items all.1 in (all.0, items, ap from_list items, all.2)
  bits_collected i IsComplete Gives (Err e) ran = tt

module _ {F T : Type 0} (bit : T → ℕ) (g : Mut F (T × Unit {0}) Bool) (f : F) (i j : IterView) (keeps : CallKeepsClosure g f) where
  pub bit_position : AscendsFrom 0 i.items → (r : Option ℕ) → FindsPosition (steps bit) g i f r j → MatchOption r (EachGives bit (λ t b. Called g f (t, tt) b f) (from_list i.items) false) (λ n. (t : T) × (contains (from_list i.items) (bit t) ≡ true) × Called g f (t, tt) true f × (n ≡ len (low (from_list i.items) (bit t))) × ((q : ℕ) → contains (from_list i.items) q ≡ true → q < bit t → (u : T) × (bit u ≡ q) × Called g f (u, tt) false f))
  bit_position ascends r ran = bit_placed bit _ (λ t b. Called g f (t, tt) b f) (from_list i.items) r (position_clause _ _ (bits_first bit) g f i j keeps ascends r ran)

module _ {F T : Type 0} (bit : T → ℕ) (g : Mut F (Bor T × Unit {0}) Bool) (f : F) (i j : IterView) (keeps : CallKeepsClosure g f) where
  pub bit_find : AscendsFrom 0 i.items → (r : Option T) → FindsItem (steps bit) g i f r j → MatchOption r (EachGives bit (λ t b. CalledAt g f t b f) (from_list i.items) false) (λ t. (contains (from_list i.items) (bit t) ≡ true) × CalledAt g f t true f × ((q : ℕ) → contains (from_list i.items) q ≡ true → q < bit t → (u : T) × (bit u ≡ q) × CalledAt g f u false f))
  bit_find ascends r ran = bit_found bit _ (λ t b. CalledAt g f t b f) (from_list i.items) (λ q p. q < p) r (find_clause _ _ g f i j keeps (bits_first bit) ascends r ran)

  pub bit_rfind : AscendsFrom 0 i.items → (r : Option T) → FindsItem (steps_back bit) g i f r j → MatchOption r (EachGives bit (λ t b. CalledAt g f t b f) (from_list i.items) false) (λ t. (contains (from_list i.items) (bit t) ≡ true) × CalledAt g f t true f × ((q : ℕ) → contains (from_list i.items) q ≡ true → bit t < q → (u : T) × (bit u ≡ q) × CalledAt g f u false f))
  bit_rfind ascends r ran = bit_found bit _ (λ t b. CalledAt g f t b f) (from_list i.items) (λ q p. p < q) r (rfind_clause _ _ g f i j keeps (bits_last bit) ascends r ran)
