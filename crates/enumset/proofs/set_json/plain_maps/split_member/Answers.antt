use Rattle.std.proofs.Common.{◌++◌, ◌∷◌, ℕ, Bool, true, false, List, refl, sym, ◌∙◌}
use Rattle.serde_json.specs.Data.{boolean}
use Rattle.serde_json.specs.Written.{compact_text}
use Rattle.enumset.proofs.PlainTexts.{IsSpace, no_space, after_spaces}
use Rattle.enumset.proofs.set_json.plain_maps.split_member.Goals as goal
use Rattle.enumset.specs.JsonPlain.{Begins}

no_boolean_space : (b : Bool) (rest : List ℕ) → Begins IsSpace (compact_text (boolean b) ++ rest) → ⊥
no_boolean_space true rest = no_space 116 (114 ∷ 117 ∷ 101 ∷ rest) refl
no_boolean_space false rest = no_space 102 (97 ∷ 108 ∷ 115 ∷ 101 ∷ rest) refl

pub returns-in_err-after_byte-clause-found : goal.returns-in_err-after_byte-clause-found
returns-in_err-after_byte-clause-found c = λ name b rest (plain, (g, h, gs, hs, is)).
    let value = compact_text (boolean b) ++ rest in
    let same = c.in_ok-name.ensures.found name (g ++ 58 ∷ (h ++ value)) plain is in
    absurd (c.in_err-after_byte.ensures.found (h ++ value) refl (g, gs, same.1))

pub returns-in_err-is_member-clause-found : goal.returns-in_err-is_member-clause-found
returns-in_err-is_member-clause-found c = λ name b rest (plain, (g, h, gs, hs, is)).
    let value = compact_text (boolean b) ++ rest in
    let same = c.in_ok-name.ensures.found name (g ++ 58 ∷ (h ++ value)) plain is in
    let after = c.in_ok-after_byte.ensures.found (h ++ value) refl (g, gs, same.1) in
    let here = after_spaces h c.split_spaces.result.0.now value c.split_spaces.result.1.now hs c.split_spaces.ensures.spaces (no_boolean_space b rest) c.split_spaces.ensures.most (sym after ∙ c.split_spaces.ensures.whole) in
    absurd (c.in_err-is_member.ensures.found b rest here)

pub returns-clause-found : goal.returns-clause-found
returns-clause-found c = λ name b rest (plain, (g, h, gs, hs, is)).
    let value = compact_text (boolean b) ++ rest in
    let same = c.in_ok-name.ensures.found name (g ++ 58 ∷ (h ++ value)) plain is in
    let after = c.in_ok-after_byte.ensures.found (h ++ value) refl (g, gs, same.1) in
    let here = after_spaces h c.split_spaces.result.0.now value c.split_spaces.result.1.now hs c.split_spaces.ensures.spaces (no_boolean_space b rest) c.split_spaces.ensures.most (sym after ∙ c.split_spaces.ensures.whole) in
    let parts = c.in_ok-is_member.ensures.found b rest here in
    (same.0, parts.0, parts.1)
