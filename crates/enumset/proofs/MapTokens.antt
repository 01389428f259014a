-- What serde_json reads for the tokens of an object of booleans.
use Rattle.std.proofs.Common.{◌≡◌, ◌+◌, ◌≤◌, ℕ, zero, suc, List, [], ◌∷◌, ◌++◌, length, Some, refl, ap, ◌∙◌, arith, Bool, true, false, option_map}
use Rattle.serde_json.proofs.OnLiterals.{serde_json_on_literals}
use Rattle.serde_json.specs.Data.{object, boolean, Members, no_members, member, put}
use Rattle.serde_json.specs.Read.{read, of_members}
use Rattle.serde_json.specs.Sent.{text_token, bool_token}
use Rattle.serde_json.specs.Written.{outline, members_outline}
use Rattle.enumset.proofs.JsonItems.{member_item, quote_next, next_item, passed, opens, closes, last_item}
use Rattle.enumset.proofs.JsonTokens.{tokens, Tokens}
use Rattle.enumset.proofs.MapHandles.{value, members, whole, members_end, member_step, object_value}
use Rattle.enumset.specs.JsonPlain.{AreSpaces, Passed, StartsWithMember}

-- the members of names with booleans, in the order given
abbrev listed : List (List ℕ × Bool) → Members
listed [] = no_members
listed (m ∷ ms) = member m.0 (boolean m.1) (listed ms)

-- an object with names and booleans put into it one after another
abbrev pub put_all : List (List ℕ × Bool) → Members → Members
put_all [] found = found
put_all (m ∷ ms) found = put_all ms (put m.0 (boolean m.1) found)

-- the tokens after the opening brace
abbrev pub member_tokens : List (List ℕ × Bool) → Tokens
member_tokens [] = tokens (125 ∷ [])
member_tokens (m ∷ ms) = text_token true m.0 ∷ bool_token false m.1 ∷ member_tokens ms

-- the members are read, with fuel for one step each and for the end
all_members : (d n : ℕ) (ms : List (List ℕ × Bool)) → length ms ≤ n → members (suc d) (suc n) (member_tokens ms) ≡ Some (members_outline (listed ms), [])
all_members d n [] enough = members_end (suc d) n
all_members d zero (m ∷ ms) enough = absurd (omega (arith, enough))
all_members d (suc n) (m ∷ ms) enough = member_step d (suc n) (member_tokens ms) m.0 m.1 (listed ms) (all_members d n ms (omega (arith, enough)))

count_tokens : (ms : List (List ℕ × Bool)) → length (member_tokens ms) ≡ suc (length ms + length ms)
unfolding serde_json_on_literals
count_tokens [] = refl
count_tokens (m ∷ ms) = omega (arith, count_tokens ms)

put_in : (ms : List (List ℕ × Bool)) (found : Members) → of_members (members_outline (listed ms)) found ≡ Some (put_all ms found)
put_in [] found = refl
put_in (m ∷ ms) found = put_in ms (put m.0 (boolean m.1) found)

-- a text of an opening brace and members reads as the members, put in one after another
pub opened : (text rest : List ℕ) (ms : List (List ℕ × Bool)) → Passed text 123 rest → tokens rest ≡ member_tokens ms → read text ≡ Some (object (put_all ms no_members))
opened text rest ms found later =
    let all = passed text 123 rest found ∙ opens.1 rest ∙ ap (λ ts. tokens (123 ∷ []) ++ ts) later in
    let fuel = ap (λ n. members 126 n (member_tokens ms)) (count_tokens ms) ∙ all_members 125 (length ms + length ms) ms (omega arith) in
    whole text (outline (object (listed ms))) (ap (value 127) all ∙ object_value 126 (member_tokens ms) (listed ms) fuel) ∙ ap (option_map object) (put_in ms no_members)

module _ (left name : List ℕ) (b : Bool) (rest : List ℕ) (here : StartsWithMember left name b rest) where
  abbrev here_are : Tokens
  here_are = text_token true name ∷ bool_token false b ∷ []

  pub next_member : (after next : List ℕ) (ms : List (List ℕ × Bool)) → Passed rest 44 after → Passed after 34 next → tokens (34 ∷ next) ≡ member_tokens ms → tokens (34 ∷ left) ≡ member_tokens ((name, b) ∷ ms)
  next_member after next ms comma quote later = next_item (34 ∷ left) here_are rest (member_item left name b rest here) after _ comma (quote_next after next quote ∙ later)

  pub last_member : (end : List ℕ) → Passed rest 125 end → AreSpaces end → tokens (34 ∷ left) ≡ member_tokens ((name, b) ∷ [])
  last_member end close spaced = last_item 125 closes.1 rest end close spaced (34 ∷ left) here_are (member_item left name b rest here)
