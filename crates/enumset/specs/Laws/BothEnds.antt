-- Laws of steps from both ends of a list.
--     both_ends      the items from the front, those left, and those from the back reversed are together the list
--     ended, ended_answer      after a step that yielded None, nothing is left;  a step from either end yields None
--     both_ends_whole      after a step that yielded None, the items from the front and those from the back reversed
--         are together the list
--     none_twice      no item of an ascending list comes twice
use Rattle.std.proofs.Common.{◌≡◌, ◌<◌, ℕ, suc, true, not, List, [], ◌∷◌, ◌++◌, None, reverse, refl, sym, ap, ◌∙◌, arith, inl, inr, subst, get_or, append_assoc, append-nil, Contains, true≢false}
use Rattle.std.proofs.lemmas.Bool.{and_from, false_from_ne_true}
use Rattle.std.proofs.lemmas.Bool.Decides.{nat_tests}
use Rattle.std.proofs.lemmas.Grind.{reverse_onto}
use Rattle.std.proofs.lemmas.List.Elements.{Contains-append_cases}
use Rattle.enumset_repr.specs.BitSet.{is_in}
use Rattle.enumset_repr.specs.Laws.Ascending.{AscendsFrom, is_in_from, is_in_push, before_last}
use Rattle.enumset_repr.specs.Laws.Ends.{last_push, without_last_push, cases_last, none_last}
use Rattle.enumset_repr.specs.Number.{is_distinct}
use Rattle.enumset_array.specs.Walks.{answer, without_answer, answers, without_answers, items_among}
use Rattle.enumset_array.specs.declared.traversal.End.{End}
use Rattle.enumset_array.specs.declared.traversal.End.TheVariants.{Front, Back}
use Rattle.enumset.specs.BothEnds.{from_front, from_back}

abbrev both : List ℕ → List End → List ℕ
both xs es = from_front xs es ++ without_answers xs es ++ reverse (from_back xs es)

both-back : (xs : List ℕ) (x : ℕ) (es : List End) → both (xs ++ x ∷ []) (Back ∷ es) ≡ both xs es ++ x ∷ []
unfolding from_front without_answers from_back
both-back xs x es =
    rw (last_push xs x, without_last_push xs x)
    (ap (λ l. from_front xs es ++ without_answers xs es ++ l) (reverse_onto (from_back xs es) x [])
    ∙ sym (append_assoc (from_front xs es ++ without_answers xs es) (reverse (from_back xs es)) (x ∷ [])))

pub both_ends : (xs : List ℕ) (es : List End) → from_front xs es ++ without_answers xs es ++ reverse (from_back xs es) ≡ xs
unfolding from_front without_answers from_back
both_ends xs [] = append-nil xs
both_ends [] (Front ∷ es) = both_ends [] es
both_ends (x ∷ xs) (Front ∷ es) = ap (λ l. x ∷ l) (both_ends xs es)
both_ends xs (Back ∷ es) = elim (cases_last xs) [
  | inl none ↦ ap (λ l. both l (Back ∷ es)) none ∙ both_ends [] es ∙ sym none
  | inr some ↦ ap (λ l. both l (Back ∷ es)) some.2 ∙ both-back some.0 some.1 es ∙ ap (λ l. l ++ some.1 ∷ []) (both_ends some.0 es) ∙ sym some.2
]

-- ---- after a step that yielded None

none_of_none : (e : End) → answer e [] ≡ None
none_of_none Front = refl
none_of_none Back = refl

-- steps from the empty list leave the empty list
none_left : (es : List End) → without_answers [] es ≡ []
unfolding without_answers
none_left [] = refl
none_left (Front ∷ es) = none_left es
none_left (Back ∷ es) = none_left es

-- a list whose end yields None is empty
no_answer : (e : End) (xs : List ℕ) → answer e xs ≡ None → xs ≡ []
no_answer Front [] none = refl
no_answer Front (x ∷ xs) none = absurd (cc)
no_answer Back xs none = none_last xs none

-- after a step that yielded None, nothing is left
pub ended : (xs : List ℕ) (es : List End) → Contains (answers xs es) None → without_answers xs es ≡ []
unfolding answers without_answers
ended xs [] has = absurd (omega (arith, has.1))
ended xs (e ∷ es) has = elim (Contains-append_cases (answer e xs ∷ []) (answers (without_answer e xs) es) None has) [
  | inl now ↦
      let first : now.0 ≡ 0 = omega (arith, now.1) in
      let none = no_answer e xs (sym (ap (λ k. get_or (answer e xs ∷ []) k None) first) ∙ now.2) in
      ap (λ l. without_answers l (e ∷ es)) none ∙ none_left (e ∷ es)
  | inr later ↦ ended (without_answer e xs) es later
]

pub ended_answer : (xs : List ℕ) (es : List End) (e : End) → Contains (answers xs es) None → answer e (without_answers xs es) ≡ None
ended_answer xs es e has = ap (answer e) (ended xs es has) ∙ none_of_none e

pub both_ends_whole : (xs : List ℕ) (es : List End) → Contains (answers xs es) None → from_front xs es ++ reverse (from_back xs es) ≡ xs
both_ends_whole xs es has =
    let front = from_front xs es in
    ap (λ l. l ++ reverse (from_back xs es)) (sym (append-nil front) ∙ ap (λ l. front ++ l) (sym (ended xs es has)))
    ∙ both_ends xs es

-- ---- no item comes twice

abbrev items : List ℕ → List End → List ℕ
items xs es = items_among (answers xs es)

items-back : (xs : List ℕ) (x : ℕ) (es : List End) → items (xs ++ x ∷ []) (Back ∷ es) ≡ x ∷ items xs es
unfolding answers items_among
items-back xs x es = rw (last_push xs x, without_last_push xs x) refl

-- each item that a step yielded is in the list
came : (xs : List ℕ) (es : List End) (q : ℕ) → is_in q (items xs es) ≡ true → is_in q xs ≡ true
unfolding answers items_among
came xs [] q one = absurd (true≢false (sym one))
came [] (Front ∷ es) q one = came [] es q one
came (x ∷ xs) (Front ∷ es) q one = let later = came xs es q in grind (arith, nat_tests)
came xs (Back ∷ es) q one = elim (cases_last xs) [
  | inl none ↦ ap (is_in q) none ∙ came [] es q (ap (λ l. is_in q (items l (Back ∷ es))) (sym none) ∙ one)
  | inr some ↦
      let parts = ap (is_in q) (sym (ap (λ l. items l (Back ∷ es)) some.2 ∙ items-back some.0 some.1 es)) ∙ one in
      let later = came some.0 es q in
      ap (is_in q) some.2 ∙ is_in_push q some.1 some.0 ∙ grind (arith, nat_tests)
]

ascends-front : (k : ℕ) (xs : List ℕ) (x : ℕ) → AscendsFrom k (xs ++ x ∷ []) → AscendsFrom k xs
ascends-front k [] x ascends = tt
ascends-front k (y ∷ ys) x ascends = (ascends.0, ascends-front (suc y) ys x ascends.1)

absent : (x : ℕ) (xs : List ℕ) → (is_in x xs ≡ true → x < x) → not (is_in x xs) ≡ true
absent x xs less = ap not (false_from_ne_true (is_in x xs) (λ one. let no = less one in omega arith))

apart : (k : ℕ) (xs : List ℕ) (es : List End) → AscendsFrom k xs → is_distinct (items xs es) ≡ true
unfolding answers items_among
apart k xs [] ascends = refl
apart k [] (Front ∷ es) ascends = apart k [] es ascends
apart k (x ∷ xs) (Front ∷ es) ascends =
    and_from _ _ (absent x (items xs es) (λ one. is_in_from (suc x) x xs ascends.1 (came xs es x one))) (apart (suc x) xs es ascends.1)
apart k xs (Back ∷ es) ascends = elim (cases_last xs) [
  | inl none ↦ ap (λ l. is_distinct (items l (Back ∷ es))) none ∙ apart k [] es tt
  | inr some ↦
      let parts = subst (AscendsFrom k) some.2 ascends in
      ap is_distinct (ap (λ l. items l (Back ∷ es)) some.2 ∙ items-back some.0 some.1 es)
      ∙ and_from _ _ (absent some.1 (items some.0 es) (λ one. before_last k some.0 some.1 some.1 parts (came some.0 es some.1 one))) (apart k some.0 es (ascends-front k some.0 some.1 parts))
]

-- no item of an ascending list comes twice
pub none_twice : (xs : List ℕ) (es : List End) → AscendsFrom 0 xs → is_distinct (items_among (answers xs es)) ≡ true
none_twice xs es ascends = apart 0 xs es ascends
