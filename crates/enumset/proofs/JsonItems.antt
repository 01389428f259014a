-- The tokens of lists and maps whose strings need no escape, one item or member at a time, with any spaces between
-- them.
use Rattle.std.proofs.Common.{◌≡◌, ℕ, List, [], ◌∷◌, ◌++◌, Bool, true, false, drop, nat_lt, ◌==◌, refl, sym, ap, subst, ◌∙◌, arith, append-nil, ◌⊎◌, inl, inr}
use Rattle.serde_json.proofs.OnLiterals.{serde_json_on_literals}
use Rattle.serde_json.specs.Data.{boolean}
use Rattle.serde_json.specs.Sent.{text_token, bool_token}
use Rattle.serde_json.specs.Written.{compact_text}
use Rattle.enumset.proofs.JsonDigits.{Ends}
use Rattle.enumset.proofs.JsonTokens.{tokens, Tokens, after_value}
use Rattle.enumset.specs.JsonPlain.{is_space, AreSpaces, Passed, IsPlain, StartsWithMember}

-- ---- spaces

-- what holds for the four kinds of space holds for each space
at_space : (P : ℕ → Type 0) → P 32 → P 9 → P 10 → P 13 → (x : ℕ) → is_space x ≡ true → P x
at_space P a b c d x h = at (grind (arith, h))
  where
    at : (x ≡ 32) ⊎ ((x ≡ 9) ⊎ ((x ≡ 10) ⊎ (x ≡ 13))) → P x
    at (inl e) = subst P (sym e) a
    at (inr (inl e)) = subst P (sym e) b
    at (inr (inr (inl e))) = subst P (sym e) c
    at (inr (inr (inr e))) = subst P (sym e) d

-- texts with the same tokens at the front, after a string, after a key's colon, after a value, and after a comma
abbrev pub Same : List ℕ → List ℕ → Type 0
Same y z =
    (tokens y ≡ tokens z) × (tokens (34 ∷ 34 ∷ y) ≡ tokens (34 ∷ 34 ∷ z)) × (tokens (34 ∷ 34 ∷ 58 ∷ y) ≡ tokens (34 ∷ 34 ∷ 58 ∷ z))
    × (after_value y ≡ after_value z) × (after_value (44 ∷ y) ≡ after_value (44 ∷ z))

pub spaces : (g z : List ℕ) → AreSpaces g → Same (g ++ z) z
unfolding serde_json_on_literals
spaces [] z h = (refl, refl, refl, refl, refl)
spaces (x ∷ g) z h = let rest = spaces g z h.1 in at_space (λ x. Same (x ∷ (g ++ z)) z) rest rest rest rest x h.0

-- ---- what may follow an item

-- a text before which a number, a string, and a member with either boolean end
abbrev pub Stops : List ℕ → Type 0
Stops rest =
    Ends rest × (drop 1 (tokens (49 ∷ rest)) ≡ after_value rest) × (tokens (34 ∷ 34 ∷ rest) ≡ text_token false [] ∷ after_value rest)
    × (tokens (34 ∷ 34 ∷ 58 ∷ (compact_text (boolean true) ++ rest)) ≡ text_token true [] ∷ bool_token false true ∷ after_value rest)
    × (tokens (34 ∷ 34 ∷ 58 ∷ (compact_text (boolean false) ++ rest)) ≡ text_token true [] ∷ bool_token false false ∷ after_value rest)

pub comma_stops : (z : List ℕ) → Stops (44 ∷ z)
unfolding serde_json_on_literals
comma_stops z = ((refl, refl, refl, refl, refl), refl, refl, refl, refl)

pub end_stops : Stops []
unfolding serde_json_on_literals
end_stops = ((refl, refl, refl, refl, refl), refl, refl, refl, refl)

pub spaces_stop : (g z : List ℕ) → AreSpaces g → Stops z → Stops (g ++ z)
unfolding serde_json_on_literals
spaces_stop [] z h stop = stop
spaces_stop (x ∷ g) z h stop =
    let one : Stops (32 ∷ (g ++ z)) = ((refl, refl, refl, refl, refl), refl, (spaces_stop g z h.1 stop).2, refl, refl) in
    at_space (λ x. Stops (x ∷ (g ++ z))) one one one one x h.0

pub passed_stops : (text : List ℕ) (x : ℕ) (rest : List ℕ) → Stops (x ∷ rest) → Passed text x rest → Stops text
passed_stops text x rest stop (g, gs, is) = subst Stops (sym is) (spaces_stop g (x ∷ rest) gs stop)

-- ---- items

-- a text begins with an item of these tokens
abbrev pub IsItem : List ℕ → Tokens → List ℕ → Type 0
IsItem text ts rest = Stops rest → tokens text ≡ ts ++ after_value rest

plain_byte : (is_key : Bool) (x : ℕ) (xs s : List ℕ) (ts : Tokens) → (x == 34) ≡ false → (x == 92) ≡ false → nat_lt x 32 ≡ false
    → tokens (34 ∷ xs) ≡ text_token is_key s ∷ ts → tokens (34 ∷ x ∷ xs) ≡ text_token is_key (x ∷ s) ∷ ts
unfolding serde_json_on_literals
plain_byte true x xs s ts q b c h = grind (arith, h, q, b, c)
plain_byte false x xs s ts q b c h = grind (arith, h, q, b, c)

string_before : (is_key : Bool) (s rest : List ℕ) (ts : Tokens) → IsPlain s → tokens (34 ∷ 34 ∷ rest) ≡ text_token is_key [] ∷ ts → tokens (34 ∷ (s ++ 34 ∷ rest)) ≡ text_token is_key s ∷ ts
string_before is_key [] rest ts p e = e
string_before is_key (x ∷ s) rest ts p e = plain_byte is_key x (s ++ 34 ∷ rest) s ts p.0.0 p.0.1 p.0.2 (string_before is_key s rest ts p.1 e)

pub name_item : (left s rest : List ℕ) → IsPlain s → left ≡ s ++ 34 ∷ rest → IsItem (34 ∷ left) (text_token false s ∷ []) rest
name_item left s rest p is stop = ap (λ l. tokens (34 ∷ l)) is ∙ string_before false s rest _ p stop.2

boolean_item : (b : Bool) (rest : List ℕ) → Stops rest → tokens (34 ∷ 34 ∷ 58 ∷ (compact_text (boolean b) ++ rest)) ≡ text_token true [] ∷ bool_token false b ∷ after_value rest
boolean_item true rest stop = stop.3
boolean_item false rest stop = stop.4

pub member_item : (left s : List ℕ) (b : Bool) (rest : List ℕ) → StartsWithMember left s b rest → IsItem (34 ∷ left) (text_token true s ∷ bool_token false b ∷ []) rest
member_item left s b rest (p, (g, h, gs, hs, is)) stop =
    ap (λ l. tokens (34 ∷ l)) is
    ∙ string_before true s (g ++ 58 ∷ (h ++ (compact_text (boolean b) ++ rest))) _ p ((spaces g (58 ∷ (h ++ (compact_text (boolean b) ++ rest))) gs).1 ∙ (spaces h (compact_text (boolean b) ++ rest) hs).2 ∙ boolean_item b rest stop)

-- a quote after a comma begins another item
pub quote_next : (after next : List ℕ) → Passed after 34 next → after_value (44 ∷ after) ≡ tokens (34 ∷ next)
unfolding serde_json_on_literals
quote_next after next (g, gs, is) = ap (λ l. after_value (44 ∷ l)) is ∙ (spaces g (34 ∷ next) gs).4 ∙ grind arith

module _ (text : List ℕ) (ts : Tokens) (rest : List ℕ) (item : IsItem text ts rest) where
  -- an item before a byte
  item_before : (x : ℕ) (after : List ℕ) → Stops (x ∷ after) → Passed rest x after → tokens text ≡ ts ++ after_value (x ∷ after)
  item_before x after stop found =
      item (passed_stops rest x after stop found) ∙ ap (λ us. ts ++ us) (ap after_value found.2 ∙ (spaces found.0 (x ∷ after) found.1).3)

  pub next_item : (after : List ℕ) (us : Tokens) → Passed rest 44 after → after_value (44 ∷ after) ≡ us → tokens text ≡ ts ++ us
  next_item after us found later = item_before 44 after (comma_stops after) found ∙ ap (λ us. ts ++ us) later

-- ---- brackets

pub passed : (text : List ℕ) (x : ℕ) (rest : List ℕ) → Passed text x rest → tokens text ≡ tokens (x ∷ rest)
passed text x rest (g, gs, is) = ap tokens is ∙ (spaces g (x ∷ rest) gs).0

abbrev Opens : ℕ → Type 0
Opens x = (z : List ℕ) → tokens (x ∷ z) ≡ tokens (x ∷ []) ++ tokens z

pub opens : Opens 91 × Opens 123
unfolding serde_json_on_literals
opens = (λ z. refl, λ z. refl)

-- a closing bracket, after an item or alone
abbrev Closes : ℕ → Type 0
Closes x = (z : List ℕ) → Stops (x ∷ z) × (after_value (x ∷ z) ≡ tokens (x ∷ []) ++ after_value z) × (tokens (x ∷ z) ≡ tokens (x ∷ []) ++ after_value z)

pub closes : Closes 93 × Closes 125
unfolding serde_json_on_literals
closes = (λ z. (((refl, refl, refl, refl, refl), refl, refl, refl, refl), refl, refl), λ z. (((refl, refl, refl, refl, refl), refl, refl, refl, refl), refl, refl))

pub spaces_alone : (g : List ℕ) → AreSpaces g → after_value g ≡ []
unfolding serde_json_on_literals
spaces_alone g h = ap after_value (sym (append-nil g)) ∙ (spaces g [] h).3

module _ (x : ℕ) (close : Closes x) (rest end : List ℕ) (found : Passed rest x end) (spaced : AreSpaces end) where
  alone : tokens (x ∷ []) ++ after_value end ≡ tokens (x ∷ [])
  alone = ap (λ ts. tokens (x ∷ []) ++ ts) (spaces_alone end spaced) ∙ append-nil (tokens (x ∷ []))

  pub last_item : (text : List ℕ) (ts : Tokens) → IsItem text ts rest → tokens text ≡ ts ++ tokens (x ∷ [])
  last_item text ts item = item_before text ts rest item x end (close end).0 found ∙ ap (λ us. ts ++ us) ((close end).1 ∙ alone)

  pub no_item : tokens rest ≡ tokens (x ∷ [])
  no_item = passed rest x end found ∙ (close end).2 ∙ alone
