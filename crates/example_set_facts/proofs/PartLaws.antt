-- The parts that an iterator over `text.split(',')` has left.
--     AreLeft      the iterator yields these parts, and then none
--     left_first      at first all parts of the text are left
--     left_next, left_none      after a step the rest is left;  if a step yields no part, none was left
use Rattle.std.proofs.Common.{◌≡◌, ℕ, true, List, [], ◌∷◌, Some, None, refl, sym, ap, arith}
use Rattle.std.proofs.lemmas.Iterator.Splits.{YieldsList-from_str_split}
use Rattle.std.specs.Borrow.{Bor}
use Rattle.std.specs.Iterator.{AlwaysYields}
use Rattle.std.specs.declared.str.Split.{Split}
use Rattle.std.specs.Str.Iter.{split_steps, split_text, split_has_more, split_pattern}
use Rattle.std.specs.Str.Pattern.{FindsChar}
use Rattle.example_set_facts.specs.Texts.{parts}

abbrev pub AreLeft : Split ℕ → List (List ℕ) → Type 0
AreLeft s rest = AlwaysYields (split_steps FindsChar (λ a b. b ≡ a)) (λ part. part.now) s rest

pub left_first : (s : Split ℕ) (text : List ℕ) → split_text s ≡ text → split_has_more s ≡ true → split_pattern s ≡ 44 → AreLeft s (parts text)
left_first s text whole more comma = (YieldsList-from_str_split 44 text (omega arith) whole more comma).runs

pub left_next : (s t : Split ℕ) (part : Bor (List ℕ)) (rest : List (List ℕ)) → AreLeft s rest → split_steps FindsChar (λ a b. b ≡ a) s (Some part) t → (later : List (List ℕ)) × (rest ≡ part.now ∷ later) × AreLeft t later
left_next s t part [] none step = absurd (none part t step)
left_next s t part (next ∷ later) some step = let one = some.1 part t step in (later, ap (λ text. text ∷ later) (sym one.0), one.1)

pub left_none : (s t : Split ℕ) (rest : List (List ℕ)) → AreLeft s rest → split_steps FindsChar (λ a b. b ≡ a) s None t → rest ≡ []
left_none s t [] none step = refl
left_none s t (next ∷ later) some step = absurd (some.0 t step)
