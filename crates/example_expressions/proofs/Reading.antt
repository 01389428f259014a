-- What a state of the parser says about the tokens so far.
--     may, accepts      whether a kind is expected;  whether each kind of a list is expected in its turn, up to the end
--     accepts-expression, whole      an expression is accepted for an operand;  what is accepted is an expression and the end
--     IsRead      what has been read: the kinds that complete it to an expression are the expected ones
--     fault, accepted      so an unexpected kind is a fault;  and an expected end completes an expression
use Rattle.std.proofs.Common.{◌≡◌, ℕ, zero, suc, ◌+◌, ◌<◌, ◌≤◌, Bool, true, false, ◌&&◌, List, [], ◌∷◌, ◌++◌, map, length, take, refl, sym, ap, ◌∙◌, subst, true≢false, append_assoc, arith, ◌↔◌, IsTrue, slice_index_or, take_all}
use Rattle.std.proofs.lemmas.Bool.{and_parts}
use Rattle.std.proofs.lemmas.List.{append_cancel_right, take_more, get_or-map, get_or_past, length-map}
use Rattle.enumset.specs.Sets.{is_in, contains, place}
use Rattle.enumset_repr.specs.Laws.Members.{contains_from_list}
use Rattle.example_expressions.specs.declared.kind.Kind.{Kind}
use Rattle.example_expressions.specs.declared.kind.Kind.TheVariants.{Number, Open, Minus, Plus, Times, Divide, Close, End}
use Rattle.example_expressions.specs.declared.token.Token.{Token}
use Rattle.example_expressions.specs.declared.parser.Reader.{Reader}
use Rattle.example_expressions.specs.declared.parser.Unexpected.{Unexpected}
use Rattle.example_expressions.specs.Grammar.{bit, is_operator, IsExpression, number, negated, joined, grouped, Begins, IsFault, kinds_of}
use Rattle.example_expressions.specs.States.{Place, Operand, Operator, Done, closing, coming, place_after, depth_after, next_kinds, Reads, Refuses}

abbrev pub may : Place → ℕ → Kind → Bool
may place depth k = is_in (bit k) (map bit (coming place depth))

abbrev pub accepts : Place → ℕ → List Kind → Bool
accepts Done depth [] = true
accepts _ depth [] = false
accepts place depth (k ∷ ks) = may place depth k && accepts (place_after k) (depth_after k depth) ks

operator : (op : Kind) (depth : ℕ) (ks : List Kind) → is_operator op ≡ true → accepts Operator depth (op ∷ ks) ≡ accepts Operand depth ks
unfolding place
operator Minus depth ks is = refl
operator Plus depth ks is = refl
operator Times depth ks is = refl
operator Divide depth ks is = refl
operator _ depth ks is = absurd (true≢false (sym is))

accepts-expression : {e : List Kind} → IsExpression e → (depth : ℕ) (rest : List Kind) → accepts Operand depth (e ++ rest) ≡ accepts Operator depth rest
unfolding place
accepts-expression number depth rest = refl
accepts-expression (negated e) depth rest = accepts-expression e depth rest
accepts-expression (joined {ks} {ls} op e is f) depth rest =
    ap (accepts Operand depth) (append_assoc ks (op ∷ ls) rest) ∙ accepts-expression e depth (op ∷ (ls ++ rest)) ∙ operator op depth (ls ++ rest) is ∙ accepts-expression f depth rest
accepts-expression (grouped {ks} e) depth rest = ap (accepts Operand (suc depth)) (append_assoc ks (Close ∷ []) rest) ∙ accepts-expression e (suc depth) (Close ∷ rest)

-- these kinds go on from any expression to a longer one, up to the parenthesis that closes it, and from there outwards
-- in the same way
Rest : ℕ → List Kind → Type 0
Rest zero ks = ks ≡ []
Rest (suc depth) ks = (e : List Kind) → IsExpression e → (f : List Kind) × (tail : List Kind) × (e ++ ks ≡ f ++ closing depth ∷ tail) × IsExpression f × Rest depth tail

Follows : Place → ℕ → List Kind → Type 0
Follows Operand depth ks = (f : List Kind) × (tail : List Kind) × (ks ≡ f ++ closing depth ∷ tail) × IsExpression f × Rest depth tail
Follows Operator depth ks = Rest (suc depth) ks
Follows Done depth ks = ks ≡ []

joins : (op : Kind) (depth : ℕ) (ks : List Kind) → is_operator op ≡ true → Follows Operand depth ks → Follows Operator depth (op ∷ ks)
unfolding Follows Rest
joins op depth ks is (f, tail, same, x, rest) = λ e y. (e ++ op ∷ f, tail, ap (λ l. e ++ op ∷ l) same ∙ sym (append_assoc e (op ∷ f) _), joined op y is x, rest)

follows : (place : Place) (depth : ℕ) (ks : List Kind) → accepts place depth ks ≡ true → Follows place depth ks
unfolding Follows Rest place
follows Operand depth (Number ∷ ks) h = follows Operator depth ks h (Number ∷ []) number
follows Operand depth (Minus ∷ ks) h = let (f, tail, same, x, rest) = follows Operand depth ks h in (Minus ∷ f, tail, ap (λ l. Minus ∷ l) same, negated x, rest)
follows Operand depth (Open ∷ ks) h =
    let (f, tail, same, x, rest) = follows Operand (suc depth) ks h in
    subst (Follows Operand depth) (ap (λ l. Open ∷ l) (append_assoc f (Close ∷ []) tail ∙ sym same)) (rest (Open ∷ (f ++ Close ∷ [])) (grouped x))
follows Operator (suc depth) (Close ∷ ks) h = λ e x. (e, ks, refl, x, follows Operator depth ks h)
follows Operator zero (End ∷ ks) h = λ e x. (e, ks, refl, x, follows Done 0 ks h)
follows Operator depth (Minus ∷ ks) h = joins Minus depth ks refl (follows Operand depth ks h)
follows Operator depth (Plus ∷ ks) h = joins Plus depth ks refl (follows Operand depth ks h)
follows Operator depth (Times ∷ ks) h = joins Times depth ks refl (follows Operand depth ks h)
follows Operator depth (Divide ∷ ks) h = joins Divide depth ks refl (follows Operand depth ks h)
follows Done depth [] h = refl
follows _ _ _ h = absurd (true≢false (sym h))

whole : (ks : List Kind) → accepts Operand 0 ks ≡ true → (e : List Kind) × (ks ≡ e ++ End ∷ []) × IsExpression e
unfolding Follows Rest
whole ks h = let (e, tail, same, x, none) = follows Operand 0 ks h in (e, same ∙ ap (λ l. e ++ End ∷ l) none, x)

completed : (place : Place) (depth : ℕ) → (ks : List Kind) × (accepts place depth ks ≡ true)
unfolding place
completed Operand zero = (Number ∷ End ∷ [], refl)
completed Operand (suc depth) = let (more, is) = completed Operator depth in (Number ∷ Close ∷ more, is)
completed Operator zero = (End ∷ [], refl)
completed Operator (suc depth) = let (more, is) = completed Operator depth in (Close ∷ more, is)
completed Done depth = ([], refl)

pub record IsRead (p : List Kind) (place : Place) (depth : ℕ) : Type 0 where
  pub reads : (rest : List Kind) → accepts Operand 0 (p ++ rest) ≡ accepts place depth rest

begins : (p : List Kind) (place : Place) (depth : ℕ) → IsRead p place depth → Begins p
begins p place depth read = let (more, is) = completed place depth in let (e, same, x) = whole (p ++ more) (read.reads more ∙ is) in (more, e, same, x)

pub read_more : (p : List Kind) (place : Place) (depth : ℕ) (k : Kind) → IsRead p place depth → may place depth k ≡ true → IsRead (p ++ k ∷ []) (place_after k) (depth_after k depth)
read_more p place depth k read comes =
    record { reads = λ rest. ap (accepts Operand 0) (append_assoc p (k ∷ []) rest) ∙ read.reads (k ∷ rest) ∙ ap (λ b. b && accepts (place_after k) (depth_after k depth) rest) comes }

may_come : (p : List Kind) (place : Place) (depth : ℕ) (k : Kind) → IsRead p place depth → IsTrue (may place depth k) ↔ Begins (p ++ k ∷ [])
unfolding place
may_come p place depth k read = (
  λ comes. begins _ _ _ (read_more p place depth k read comes),
  λ (more, e, same, x). (and_parts _ _ (sym (read.reads (k ∷ more)) ∙ ap (accepts Operand 0) (sym (append_assoc p (k ∷ []) more) ∙ same) ∙ accepts-expression x 0 (End ∷ []))).0,
)

comes : (r : Reader) (k : Kind) → contains (next_kinds r) (bit k) ≡ may (place_after r.last) r.depth k
comes r k = contains_from_list _ _

pub closes_open : (r : Reader) → contains (next_kinds r) (bit Close) ≡ true → 0 < r.depth
unfolding place
closes_open r h = deep (place_after r.last) r.depth (sym (comes r Close) ∙ h) where
  deep : (place : Place) (depth : ℕ) → may place depth Close ≡ true → 0 < depth
  deep Operator (suc depth) h = omega arith
  deep _ _ h = absurd (true≢false (sym h))

-- the kinds before a place and the one there begin the list of all kinds and the end
front : (ks : List Kind) (i : ℕ) → i ≤ length ks → (more : List Kind) × ((take i ks ++ slice_index_or ks i End ∷ []) ++ more ≡ ks ++ End ∷ [])
front [] zero h = ([], refl)
front (k ∷ ks) zero h = (ks ++ End ∷ [], refl)
front [] (suc i) h = absurd (omega arith)
front (k ∷ ks) (suc i) h = let (more, same) = front ks i (omega arith) in (more, ap (λ l. k ∷ l) same)

-- a reader before the token at a place
pub record IsAt (tokens : List Token) (i : ℕ) (r : Reader) : Type 0 where
  pub place : r.place ≡ i
  pub depth : r.depth ≤ r.place
  pub read : IsRead (take r.place (kinds_of tokens)) (place_after r.last) r.depth

module _ (tokens : List Token) (i : ℕ) (r : Reader) (at : IsAt tokens i r) where
  long : length (kinds_of tokens) ≡ length tokens
  long = length-map tokens (λ (t : Token). t.kind)

  pub kind_at : (t : Token) → i < length tokens → (slice_index_or tokens i t).kind ≡ slice_index_or (kinds_of tokens) r.place End
  kind_at t within = sym (get_or-map (λ (t : Token). t.kind) tokens i t End within) ∙ ap (λ n. slice_index_or (kinds_of tokens) n End) (sym at.place)

  pub end_at : length tokens ≤ i → End ≡ slice_index_or (kinds_of tokens) r.place End
  end_at past = sym (get_or_past (kinds_of tokens) r.place End (omega (arith, long)))

  pub step : (s : Reader) (t : Token) → i < length tokens → Reads r (slice_index_or tokens i t).kind s → s.depth ≤ s.place → IsAt tokens (i + 1) s
  step s t within reads depth = record {
    place = ap (λ (s : Reader). s.place) reads.next ∙ ap (λ n. n + 1) at.place;
    depth = depth;
    read = rw (reads.next, take_more (kinds_of tokens) r.place End (omega (arith, long)), ← kind_at t within) (read_more _ _ _ _ at.read (sym (comes r _) ∙ reads.may_come));
  }

  pub fault : (k : Kind) (f : Unexpected) → i ≤ length tokens → k ≡ slice_index_or (kinds_of tokens) r.place End → Refuses r k f → IsFault (kinds_of tokens) f
  fault k f within is refuses = subst (IsFault (kinds_of tokens)) (sym refuses.is) (record {
    no_expression = λ x. let (more, same) = front (kinds_of tokens) r.place (omega (arith, long)) in refused ((tells k).1 (more, kinds_of tokens, rw (is, same) refl, x));
    begins = begins _ _ _ at.read;
    within = omega (arith, long);
    found = is;
    not_expected = refused;
    expected = tells;
  })
    where
      tells : (k : Kind) → IsTrue (contains (next_kinds r) (bit k)) ↔ Begins (take r.place (kinds_of tokens) ++ k ∷ [])
      tells k = rw comes (may_come _ _ _ k at.read)

      refused : IsTrue (contains (next_kinds r) (bit k)) → ⊥
      refused h = true≢false (sym h ∙ refuses.may_not_come)

  pub accepted : (s : Reader) → length tokens ≤ i → Reads r End s → IsExpression (kinds_of tokens)
  accepted s past reads =
      let (e, same, x) = whole (take r.place (kinds_of tokens) ++ End ∷ []) (at.read.reads (End ∷ []) ∙ ap (λ b. b && true) (sym (comes r End) ∙ reads.may_come)) in
      rw (← take_all r.place (kinds_of tokens) (omega (arith, long))) (subst IsExpression (sym (append_cancel_right _ _ _ same)) x)
