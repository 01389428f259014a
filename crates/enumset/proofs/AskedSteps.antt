-- Steps of an iterator from either end: what they yield and leave, and how many asks they may make.
use Rattle.std.proofs.Common.{◌≡◌, ◌<◌, ◌≤◌, ℕ, ◌+◌, List, [], ◌∷◌, ◌++◌, Bool, Option, Some, None, MatchOption, is_some, if◌then◌else◌, length, map, option_map, take, drop, set, get_or, take_all, refl, sym, ap, ◌∙◌, subst, arith, append_assoc, append-nil}
use Rattle.std.proofs.lemmas.List.{drop_more, drop_all, take_more_set, map-append}
use Rattle.enumset_repr.specs.Asks.{BoundsAsks}
use Rattle.enumset_repr.specs.BitSet.{BitSet, contains}
use Rattle.enumset_repr.specs.Ends.{first, last, without_first, without_last}
use Rattle.enumset_repr.specs.Laws.Ends.{last_push, without_last_push}
use Rattle.enumset_array.specs.Walks.{answer, without_answer, answers, without_answers, items_among}
use Rattle.enumset_array.specs.declared.traversal.End.{End}
use Rattle.enumset_array.specs.declared.traversal.End.TheVariants.{Front}
use Rattle.enumset_mixed.specs.Laws.Items.{none_left, gave_first, gave_last}
use Rattle.enumset_mixed.specs.Mixed.{with_validity}

-- ---- one step

pub first_by : {A : Type 0} (bit : A → ℕ) (xs : List ℕ) (r : Option A) (ys : List ℕ) → MatchOption r ((xs ≡ []) × (ys ≡ [])) (λ x. xs ≡ bit x ∷ ys) → (option_map bit r ≡ first xs) × (ys ≡ without_first xs)
first_by bit xs None ys step = (ap first (sym step.0), step.1 ∙ sym (ap without_first step.0))
first_by bit xs (Some x) ys step = (ap first (sym step), sym (ap without_first step))

pub last_by : {A : Type 0} (bit : A → ℕ) (xs : List ℕ) (r : Option A) (ys : List ℕ) → MatchOption r ((xs ≡ []) × (ys ≡ [])) (λ x. xs ≡ ys ++ bit x ∷ []) → (option_map bit r ≡ last xs) × (ys ≡ without_last xs)
last_by bit xs None ys step = (ap last (sym step.0), step.1 ∙ sym (ap without_last step.0))
last_by bit xs (Some x) ys step = (sym (ap last step ∙ last_push ys (bit x)), sym (ap without_last step ∙ without_last_push ys (bit x)))

-- a bit, paired with whether it is valid
abbrev pub pair : BitSet → ℕ → ℕ × Bool
pair valid b = (b, contains valid b)

last_same : {A : Type 0} (zs : List A) (a b : A) → zs ++ a ∷ [] ≡ zs ++ b ∷ [] → a ≡ b
last_same [] a b e = cc
last_same (z ∷ zs) a b e = let rest : zs ++ a ∷ [] ≡ zs ++ b ∷ [] = cc in last_same zs a b rest

-- what a step from the front says, for the items of a mixed set
pub mixed_first_by : {A : Type 0} (item : A → ℕ × Bool) (valid : BitSet) (xs : List ℕ) (r : Option A) (ys : List ℕ) → MatchOption r ((with_validity valid xs ≡ []) × (with_validity valid ys ≡ [])) (λ x. with_validity valid xs ≡ item x ∷ with_validity valid ys)
    → (option_map item r ≡ option_map (pair valid) (first xs)) × (ys ≡ without_first xs)
mixed_first_by item valid xs None ys step =
    let done = first_by (λ x. (item x).0) xs None ys (none_left valid xs step.0, none_left valid ys step.1) in
    (ap (option_map (pair valid)) done.0, done.1)
mixed_first_by item valid xs (Some x) ys step =
    let gave : xs ≡ (item x).0 ∷ ys = gave_first valid xs ys (item x) step in
    let both : item x ∷ with_validity valid ys ≡ pair valid (item x).0 ∷ with_validity valid ys = sym step ∙ ap (with_validity valid) gave in
    let same : item x ≡ pair valid (item x).0 = cc in
    let done = first_by (λ y. (item y).0) xs (Some x) ys gave in
    (ap Some same ∙ ap (option_map (pair valid)) done.0, done.1)

pub mixed_last_by : {A : Type 0} (item : A → ℕ × Bool) (valid : BitSet) (xs : List ℕ) (r : Option A) (ys : List ℕ) → MatchOption r ((with_validity valid xs ≡ []) × (with_validity valid ys ≡ [])) (λ x. with_validity valid xs ≡ with_validity valid ys ++ item x ∷ [])
    → (option_map item r ≡ option_map (pair valid) (last xs)) × (ys ≡ without_last xs)
mixed_last_by item valid xs None ys step =
    let done = last_by (λ x. (item x).0) xs None ys (none_left valid xs step.0, none_left valid ys step.1) in
    (ap (option_map (pair valid)) done.0, done.1)
mixed_last_by item valid xs (Some x) ys step =
    let gave : xs ≡ ys ++ (item x).0 ∷ [] = gave_last valid xs ys (item x) step in
    let same : item x ≡ pair valid (item x).0 =
    last_same (with_validity valid ys) (item x) (pair valid (item x).0) (sym step ∙ ap (with_validity valid) gave ∙ map-append (pair valid) ys ((item x).0 ∷ [])) in
    let done = last_by (λ y. (item y).0) xs (Some x) ys gave in
    (ap Some same ∙ ap (option_map (pair valid)) done.0, done.1)

pub some_mapped : {A B : Type 0} (f : A → B) (r : Option A) → is_some (option_map f r) ≡ is_some r
some_mapped f None = refl
some_mapped f (Some x) = refl

-- what a step from an end yields and leaves, and how many asks it makes
pub stepped : {A B : Type 0} (item : A → B) (see : Option ℕ → Option B) → ((a : Option ℕ) → is_some (see a) ≡ is_some a) → (e end : End) (xs ys : List ℕ) (r : Option A) (asks span new_asks new_span : ℕ) → e ≡ end
    → (option_map item r ≡ see (answer end xs)) × (ys ≡ without_answer end xs) → BoundsAsks asks span r new_asks new_span
    → (option_map item r ≡ see (answer e xs)) × (ys ≡ without_answer e xs) × BoundsAsks asks span (answer e xs) new_asks new_span
stepped item see keeps e end xs ys r asks span new_asks new_span is step bounds =
    let same : is_some r ≡ is_some (answer e xs) = sym (some_mapped item r) ∙ ap is_some step.0 ∙ keeps (answer end xs) ∙ ap (λ d. is_some (answer d xs)) (sym is) in (
      step.0 ∙ ap (λ d. see (answer d xs)) (sym is),
      step.1 ∙ ap (λ d. without_answer d xs) (sym is),
      (bounds.0, subst (λ b. new_asks + new_span ≤ asks + span + (if b then 1 else 0)) same bounds.1),
    )

-- ---- many steps

items_among-cons : (r : Option ℕ) (rs : List (Option ℕ)) → length (items_among (r ∷ rs)) ≡ (if is_some r then 1 else 0) + length (items_among rs)
unfolding items_among
items_among-cons None rs = omega arith
items_among-cons (Some b) rs = omega arith

pub few_answers : (xs : List ℕ) (es : List End) → length (items_among (answers xs es)) ≤ length es
unfolding answers items_among
few_answers xs [] = omega arith
few_answers xs (e ∷ es) = grind (arith, items_among-cons (answer e xs) (answers (without_answer e xs) es), few_answers (without_answer e xs) es)

-- one more step of a list of ends
pub answers_next : {R B : Type 0} (seen : R → B) (see : Option ℕ → B) (total : List B) (es : List End) (i : ℕ) (rs : List R) (r : R) (ys zs : List ℕ) → i < length es → i < length rs
    → map seen (take i rs) ++ map see (answers ys (drop i es)) ≡ total → seen r ≡ see (answer (get_or es i Front) ys) → zs ≡ without_answer (get_or es i Front) ys
    → map seen (take (i + 1) (set rs i r)) ++ map see (answers zs (drop (i + 1) es)) ≡ total
unfolding answers
answers_next seen see total es i rs r ys zs h room before item step =
    ap (λ l. map seen l ++ map see (answers zs (drop (i + 1) es))) (take_more_set rs i r room)
    ∙ ap (λ l. l ++ map see (answers zs (drop (i + 1) es))) (map-append seen (take i rs) (r ∷ []))
    ∙ append_assoc (map seen (take i rs)) (seen r ∷ []) (map see (answers zs (drop (i + 1) es)))
    ∙ (λ k. map seen (take i rs) ++ (item k ∷ map see (answers (step k) (drop (i + 1) es))))
    ∙ sym (ap (λ l. map seen (take i rs) ++ map see (answers ys l)) (drop_more es i Front h))
    ∙ before

pub left_next : (xs : List ℕ) (es : List End) (i : ℕ) (ys zs : List ℕ) → i < length es → without_answers ys (drop i es) ≡ without_answers xs es → zs ≡ without_answer (get_or es i Front) ys → without_answers zs (drop (i + 1) es) ≡ without_answers xs es
unfolding without_answers
left_next xs es i ys zs h before step =
    ap (λ l. without_answers l (drop (i + 1) es)) step ∙ sym (ap (without_answers ys) (drop_more es i Front h)) ∙ before

pub asks_next : (total : ℕ) (es : List End) (i : ℕ) (ys zs : List ℕ) (asks span new_asks new_span : ℕ) → i < length es → asks + span + length (items_among (answers ys (drop i es))) ≤ total → zs ≡ without_answer (get_or es i Front) ys
    → BoundsAsks asks span (answer (get_or es i Front) ys) new_asks new_span → new_asks + new_span + length (items_among (answers zs (drop (i + 1) es))) ≤ total
unfolding answers
asks_next total es i ys zs asks span new_asks new_span h before step bounds =
    let e = get_or es i Front in
    let count : length (items_among (answers ys (drop i es))) ≡ (if is_some (answer e ys) then 1 else 0) + length (items_among (answers zs (drop (i + 1) es))) =
    ap (λ l. length (items_among (answers ys l))) (drop_more es i Front h)
    ∙ items_among-cons (answer e ys) (answers (without_answer e ys) (drop (i + 1) es))
    ∙ ap (λ l. (if is_some (answer e ys) then 1 else 0) + length (items_among (answers l (drop (i + 1) es)))) (sym step) in
    omega (arith, before, bounds.1, count)

-- after the last of a list of ends
pub answers_last : {R B : Type 0} (seen : R → B) (see : Option ℕ → B) (total : List B) (es : List End) (i : ℕ) (rs : List R) (ys : List ℕ) → length es ≤ i → length rs ≤ i
    → map seen (take i rs) ++ map see (answers ys (drop i es)) ≡ total → map seen rs ≡ total
unfolding answers
answers_last seen see total es i rs ys h room before =
    sym (append-nil (map seen rs))
    ∙ (λ k. map seen (sym (take_all i rs room) k) ++ map see (answers ys (sym (drop_all i es h) k)))
    ∙ before

pub left_last : (es : List End) (i : ℕ) (ys : List ℕ) → length es ≤ i → without_answers ys (drop i es) ≡ ys
unfolding without_answers
left_last es i ys h = ap (without_answers ys) (drop_all i es h)

-- ---- answers without whether they are valid

pub unmapped : (rs : List (Option ℕ)) → map (λ r. r) rs ≡ rs
unmapped [] = refl
unmapped (r ∷ rs) = ap (λ l. r ∷ l) (unmapped rs)

firsts : {A : Type 0} (item : A → ℕ × Bool) (rs : List (Option A)) → map (option_map (λ p. p.0)) (map (option_map item) rs) ≡ map (option_map (λ x. (item x).0)) rs
firsts item [] = refl
firsts item (None ∷ rs) = ap (λ l. None ∷ l) (firsts item rs)
firsts item (Some x ∷ rs) = ap (λ l. Some (item x).0 ∷ l) (firsts item rs)

unpaired : (valid : BitSet) (rs : List (Option ℕ)) → map (option_map (λ p. p.0)) (map (option_map (pair valid)) rs) ≡ rs
unpaired valid [] = refl
unpaired valid (None ∷ rs) = ap (λ l. None ∷ l) (unpaired valid rs)
unpaired valid (Some b ∷ rs) = ap (λ l. Some b ∷ l) (unpaired valid rs)

pub bits_alone : {A : Type 0} (item : A → ℕ × Bool) (valid : BitSet) (rs : List (Option A)) (bs : List (Option ℕ)) → map (option_map item) rs ≡ map (option_map (pair valid)) bs → map (option_map (λ x. (item x).0)) rs ≡ bs
bits_alone item valid rs bs same = sym (firsts item rs) ∙ ap (map (option_map (λ p. p.0))) same ∙ unpaired valid bs
