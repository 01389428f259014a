-- The text of a list of tokens, when one more token is read.
use Rattle.std.proofs.Common.{◌≡◌, ℕ, List, [], ◌∷◌, ◌++◌, length, refl, ap, sym, ◌∙◌, append_assoc, arith}
use Rattle.enumset_source.specs.Sources.{written}
use Rattle.enumset_source.specs.declared.tokens.Token.{Token}

pub none_left : (bytes : List ℕ) → length bytes ≡ 0 → bytes ≡ []
none_left [] none = refl
none_left (b ∷ bytes) none = absurd (omega (arith, none))

-- one more token, and the text after it
pub written_append : (ts : List Token) (t : Token) (rest : List ℕ) → written (ts ++ t ∷ []) ++ rest ≡ written ts ++ (t.space.now ++ (t.text.now ++ rest))
written_append [] t rest = append_assoc (t.space.now ++ t.text.now) [] rest ∙ append_assoc t.space.now t.text.now rest
written_append (u ∷ ts) t rest =
    let first = u.space.now ++ u.text.now in
    append_assoc first (written (ts ++ t ∷ [])) rest
    ∙ ap (λ x. first ++ x) (written_append ts t rest)
    ∙ sym (append_assoc first (written ts) (t.space.now ++ (t.text.now ++ rest)))
