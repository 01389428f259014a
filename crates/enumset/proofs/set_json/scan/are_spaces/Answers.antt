use Rattle.std.proofs.Common.{◌≡◌, ◌==◌, ◌++◌, ◌∷◌, [], ℕ, List, length, true, refl, sym, ap, subst, ◌∙◌, append-nil, arith, eqb-true}
use Rattle.enumset.proofs.PlainTexts.{after_spaces}
use Rattle.enumset.proofs.set_json.scan.are_spaces.Goals as goal
use Rattle.enumset.specs.JsonPlain.{AreSpaces}

nothing : (xs : List ℕ) → (length xs == 0) ≡ true → xs ≡ []
nothing [] e = refl
nothing (x ∷ xs) e = absurd (omega (arith, eqb-true _ _ e))

pub returns : goal.returns
returns c =
    let g = c.split_spaces.result.0.now in (
      λ none. subst AreSpaces (sym (c.split_spaces.ensures.whole ∙ ap (λ l. g ++ l) (nothing c.split_spaces.result.1.now (sym c.is_empty.ensures ∙ none)) ∙ append-nil g)) c.split_spaces.ensures.spaces,
      λ all.
          let rest : c.split_spaces.result.1.now ≡ [] = after_spaces c.args.bytes.now g [] c.split_spaces.result.1.now all c.split_spaces.ensures.spaces (λ b. b) c.split_spaces.ensures.most (append-nil c.args.bytes.now ∙ c.split_spaces.ensures.whole) in
          c.is_empty.ensures ∙ ap (λ l. length l == 0) rest,
    )
