-- The characters of a line, read one after another.
--     more_read, fault_read      one more character, which adds to the tokens, or is a fault
--     all_read      after the last character the tokens are the tokens of the line
-- Each iteration of a loop over characters with their places has the premise about `enumerate_from`.
use Rattle.std.proofs.Common.{◌≡◌, ℕ, zero, suc, ◌+◌, ◌<◌, Bool, List, [], ◌∷◌, length, get_or, drop, Ok, Err, sym, ap, ◌∙◌, arith}
use Rattle.std.specs.Char.{is_ascii_digit}
use Rattle.std.specs.List.{enumerate_from}
use Rattle.std.proofs.lemmas.List.{at_drop_more, at_drop_all}
use Rattle.std.proofs.lemmas.List.FromFn.{length-enumerate_from}
use Rattle.example_expressions.specs.Faults.{and_then}
use Rattle.example_expressions.specs.Tokens.{with_character, tokens_from, tokens_of}
use Rattle.example_expressions.specs.declared.fault.Fault.{Fault}
use Rattle.example_expressions.specs.declared.token.Token.{Token}

place : (n : ℕ) (cs : List ℕ) (k : ℕ) (p : ℕ × ℕ) → k < length (enumerate_from n cs) → p ≡ get_or (enumerate_from n cs) k p → (p.0 ≡ n + k) × (p.1 ≡ get_or cs k p.1)
place n [] k p within is = absurd (omega arith)
place n (c ∷ cs) zero p within is = (omega (arith, ap (λ q. q.0) is), ap (λ q. q.1) is)
place n (c ∷ cs) (suc k) p within is = let rest = place (n + 1) cs k p (omega arith) is in (omega arith, rest.1)

module _ (cs : List ℕ) (after : Bool) (ts : List Token) (k : ℕ) (so_far : tokens_from after ts (k + 1) (drop k cs) ≡ tokens_of cs) where
  module _ (p : ℕ × ℕ) (turn : (k < length (enumerate_from 0 cs)) × (p ≡ get_or (enumerate_from 0 cs) k p)) where
    one_more : tokens_of cs ≡ and_then (with_character after ts (p.0 + 1) p.1) (λ more. tokens_from (is_ascii_digit p.1) more (k + 1 + 1) (drop (k + 1) cs))
    one_more =
        let here = place 0 cs k p turn.0 turn.1 in
        let at : p.0 ≡ k = omega arith in
        sym so_far
        ∙ at_drop_more (tokens_from after ts (k + 1)) cs k p.1 (omega (arith, length-enumerate_from 0 cs))
        ∙ ap (λ c. tokens_from after ts (k + 1) (c ∷ drop (k + 1) cs)) (sym here.1)
        ∙ ap (λ i. and_then (with_character after ts (i + 1) p.1) (λ more. tokens_from (is_ascii_digit p.1) more (k + 1 + 1) (drop (k + 1) cs))) (sym at)

    pub more_read : (more : List Token) (is_digit : Bool) (n : ℕ) → with_character after ts (p.0 + 1) p.1 ≡ Ok more → is_digit ≡ is_ascii_digit p.1 → n ≡ k + 1 → tokens_from is_digit more (n + 1) (drop n cs) ≡ tokens_of cs
    more_read more is_digit n read digit next =
        rw (digit, next) (sym (one_more ∙ ap (λ r. and_then r (λ more. tokens_from (is_ascii_digit p.1) more (k + 1 + 1) (drop (k + 1) cs))) read))

    pub fault_read : (f : Fault) → with_character after ts (p.0 + 1) p.1 ≡ Err f → tokens_of cs ≡ Err f
    fault_read f read = one_more ∙ ap (λ r. and_then r (λ more. tokens_from (is_ascii_digit p.1) more (k + 1 + 1) (drop (k + 1) cs))) read

  pub all_read : k ≡ length (enumerate_from 0 cs) → tokens_of cs ≡ Ok ts
  all_read end = sym so_far ∙ at_drop_all (tokens_from after ts (k + 1)) cs k (omega (arith, length-enumerate_from 0 cs))
