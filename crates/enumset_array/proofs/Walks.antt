-- Laws of steps from either end of a list: what one more step does.
use Rattle.std.proofs.Common.{◌≡◌, ◌<◌, ◌≤◌, ℕ, ◌+◌, List, [], ◌∷◌, ◌++◌, Option, Some, None, length, take, get_or, is_some, MatchOption, if◌then◌else◌, refl, sym, ap, ◌∙◌, subst, arith, length-append, append-nil, inl, inr, IfNone, Contains}
use Rattle.std.proofs.lemmas.List.{take_more}
use Rattle.std.proofs.lemmas.List.Elements.{filter_map-append, Contains-push_cases}
use Rattle.std.specs.List.{cons_option}
use Rattle.enumset_repr.specs.BitSet.{BitSet, remove, difference, from_list}
use Rattle.enumset_repr.specs.Laws.Ascending.{is_in_push}
use Rattle.enumset_repr.specs.Laws.Members.{members, same_set, contains_from_list}
use Rattle.enumset_array.specs.Walks.{answer, without_answer, answers, without_answers, items_among}
use Rattle.enumset_array.specs.declared.traversal.End.{End}
use Rattle.enumset_array.specs.declared.traversal.End.TheVariants.{Front}

-- ---- one more step

pub answers-push : (xs : List ℕ) (es : List End) (e : End) → answers xs (es ++ e ∷ []) ≡ answers xs es ++ answer e (without_answers xs es) ∷ []
unfolding answers without_answers
answers-push xs [] e = refl
answers-push xs (f ∷ fs) e = ap (λ rs. answer f xs ∷ rs) (answers-push (without_answer f xs) fs e)

pub without_answers-push : (xs : List ℕ) (es : List End) (e : End) → without_answers xs (es ++ e ∷ []) ≡ without_answer e (without_answers xs es)
unfolding without_answers
without_answers-push xs [] e = refl
without_answers-push xs (f ∷ fs) e = without_answers-push (without_answer f xs) fs e

items_among-push : (rs : List (Option ℕ)) (r : Option ℕ) → items_among (rs ++ r ∷ []) ≡ items_among rs ++ cons_option r []
unfolding items_among
items_among-push rs r = filter_map-append (λ (r : Option ℕ). r) rs (r ∷ [])

pub length-items_among-push : (rs : List (Option ℕ)) (r : Option ℕ) → length (items_among (rs ++ r ∷ [])) ≡ length (items_among rs) + (if is_some r then 1 else 0)
length-items_among-push rs None = ap length (items_among-push rs None) ∙ length-append (items_among rs) []
length-items_among-push rs (Some b) = ap length (items_among-push rs (Some b)) ∙ length-append (items_among rs) (b ∷ [])

pub length-items_among : (rs : List (Option ℕ)) → length (items_among rs) ≤ length rs
unfolding items_among
length-items_among [] = omega arith
length-items_among (None ∷ rs) = omega (arith, length-items_among rs)
length-items_among (Some b ∷ rs) = omega (arith, length-items_among rs)

-- ---- the set without the items among the answers

pub difference-none : (s : BitSet) → s ≡ difference s (from_list (items_among []))
unfolding items_among
difference-none s = same_set s _ (λ q. grind (arith, members, contains_from_list [] q))

difference-push : (s : BitSet) (bs : List ℕ) (b : ℕ) → remove (difference s (from_list bs)) b ≡ difference s (from_list (bs ++ b ∷ []))
difference-push s bs b = same_set _ _ (λ q. grind (arith, members, contains_from_list, is_in_push))

-- the set after a step that yielded r
pub difference-step : (s t u : BitSet) (rs : List (Option ℕ)) (r : Option ℕ) → t ≡ difference s (from_list (items_among rs)) → MatchOption r (u ≡ t) (λ b. u ≡ remove t b) → u ≡ difference s (from_list (items_among (rs ++ r ∷ [])))
difference-step s t u rs None e step = step ∙ e ∙ ap (λ bs. difference s (from_list bs)) (sym (items_among-push rs None ∙ append-nil (items_among rs)))
difference-step s t u rs (Some b) e step =
    step ∙ ap (λ v. remove v b) e ∙ difference-push s (items_among rs) b ∙ ap (λ bs. difference s (from_list bs)) (sym (items_among-push rs (Some b)))

-- once an answer was None, the cursors have met
pub none-push : (rs : List (Option ℕ)) (r : Option ℕ) (P Q : Type 0) → (Contains rs None → P) → (P → r ≡ None) → IfNone r Q → Contains (rs ++ r ∷ []) None → Q
none-push rs r P Q before stays met has = subst (λ o. IfNone o Q) (elim (Contains-push_cases rs r None has) [ inl earlier ↦ stays (before earlier) | inr now ↦ now ]) met

-- ---- the next end of a list of ends

pub answers_next : (xs : List ℕ) (es : List End) (i : ℕ) (rs vs : List (Option ℕ)) (r : Option ℕ) (ys : List ℕ) → i < length es → rs ≡ answers xs (take i es) → ys ≡ without_answers xs (take i es)
    → r ≡ answer (get_or es i Front) ys → vs ≡ rs ++ r ∷ [] → vs ≡ answers xs (take (i + 1) es)
answers_next xs es i rs vs r ys h items rest item pushed =
    pushed ∙ (λ k. items k ++ (item ∙ ap (answer (get_or es i Front)) rest) k ∷ []) ∙ sym (answers-push xs (take i es) (get_or es i Front)) ∙ ap (answers xs) (sym (take_more es i Front h))

pub rest_next : (xs : List ℕ) (es : List End) (i : ℕ) (ys zs : List ℕ) → i < length es → ys ≡ without_answers xs (take i es) → zs ≡ without_answer (get_or es i Front) ys → zs ≡ without_answers xs (take (i + 1) es)
rest_next xs es i ys zs h rest step =
    step ∙ ap (without_answer (get_or es i Front)) rest ∙ sym (without_answers-push xs (take i es) (get_or es i Front)) ∙ ap (without_answers xs) (sym (take_more es i Front h))
