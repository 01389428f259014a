-- The reader of values at any depth and for any tokens, taken from the definition of `read`.
use Rattle.std.proofs.Common.{◌≡◌, ℕ, suc, List, [], ◌∷◌, ◌++◌, length, refl, arith, Bool, Option, Some, None, false, true, option_and_then, option_map}
use Rattle.serde_json.proofs.OnLiterals.{serde_json_on_literals}
use Rattle.serde_json.specs.Data.{Data, object, boolean, Members, member, no_members}
use Rattle.serde_json.specs.Read.{read, of_json}
use Rattle.serde_json.specs.Sent.{text_token, bool_token}
use Rattle.serde_json.specs.Written.{outline, members_outline}
use Rattle.enumset.proofs.JsonTokens.{tokens, Tokens, Json, TypeOf}

-- `option_and_then`, which does not unfold
unfoldable pub then : {A B : Type 0} → (A → Option B) → Option A → Option B
then f None = None
then f (Some a) = f a

pub nested_is : {A B C : Type 0} (f : B → Option C) (g : A → Option B) (o : Option A) → option_and_then f (option_and_then g o) ≡ then (λ a. option_and_then f (g a)) o
unfolding then
nested_is f g None = refl
nested_is f g (Some a) = refl

pub mapped_is : {A B : Type 0} (f : A → B) (o : Option A) → option_map f o ≡ then (λ a. Some (f a)) o
unfolding then
mapped_is f None = refl
mapped_is f (Some a) = refl

abbrev pub pick : {A B Given : Type 0} (f : A → Option B) (o : Option A) → (Given → then f o ≡ then f o) → Option A
pick f o same = o

-- the value at the front of tokens, and the tokens after it
unfoldable pub value : ℕ → Tokens → Option (Json × Tokens)
value d ts =
    pick {A = Json × Tokens} {B = Data} {Given = (text : List ℕ) × (d ≡ 127) × (ts ≡ tokens text)} _ _
    (λ (text, depth, left). let same : read text ≡ read text = refl in rw (nested_is {A = Json × Tokens} {B = Json} {C = Data}, ← depth, ← left) at same)

-- a text whose tokens are one value reads as that value
pub whole : (text : List ℕ) (j : Json) → value 127 (tokens text) ≡ Some (j, []) → read text ≡ of_json j
unfolding value
whole text j e = rw e refl

-- ---- objects

abbrev pub JsonMembers : Type 0
JsonMembers = TypeOf (members_outline no_members)

-- the token of an opening brace, and then other tokens
abbrev brace_before : Tokens → Tokens
brace_before ts = tokens (123 ∷ []) ++ ts

-- the members at the front of tokens, up to a closing brace, and the tokens after it
unfoldable pub members : ℕ → ℕ → Tokens → Option (JsonMembers × Tokens)
unfolding serde_json_on_literals value
members d n ts =
    pick {A = JsonMembers × Tokens} {B = Json × Tokens} {Given = n ≡ length ts} _ _
    (λ count. let same : value (suc d) (brace_before ts) ≡ value (suc d) (brace_before ts) = refl in rw (mapped_is {A = JsonMembers × Tokens} {B = Json × Tokens}, ← count) at same)

pub members_end : (d n : ℕ) → members d (suc n) (tokens (125 ∷ [])) ≡ Some (members_outline no_members, [])
unfolding members
members_end d n = refl

pub member_step : (d n : ℕ) (ts : Tokens) (k : List ℕ) (b : Bool) (ms : Members) → members (suc d) n ts ≡ Some (members_outline ms, [])
    → members (suc d) (suc n) (text_token true k ∷ bool_token false b ∷ ts) ≡ Some (members_outline (member k (boolean b) ms), [])
unfolding members
member_step d n ts k b ms h = grind (arith, h)

pub object_value : (d : ℕ) (ts : Tokens) (ms : Members) → members d (length ts) ts ≡ Some (members_outline ms, []) → value (suc d) (brace_before ts) ≡ Some (outline (object ms), [])
unfolding members
object_value d ts ms h = grind (arith, h)
