-- The reader of serde_json one step at a time, from the end of a text to its front.
use Rattle.std.proofs.Common.{◌≡◌, ℕ, suc, List, [], ◌∷◌, refl, Some, arith, false}
use Rattle.serde_json.proofs.OnLiterals.{serde_json_on_literals}
use Rattle.serde_json.specs.Data.{array, string, item, no_items, Items}
use Rattle.serde_json.specs.Read.{read}
use Rattle.serde_json.specs.Sent.{text_token}
use Rattle.enumset.proofs.JsonTokens.{tokens}

-- texts with the same tokens are read as the same
pub same_read : (a b : List ℕ) → tokens a ≡ tokens b → read a ≡ read b
same_read a b e = rw e refl

pub empty_list : read (91 ∷ 93 ∷ []) ≡ Some (array no_items)
unfolding serde_json_on_literals
empty_list = refl

-- the depth is a variable, so that no tactic computes the reader at each depth
item_step_at : (d : ℕ) → suc (suc d) ≡ 127 → (ys zs s : List ℕ) (ds : Items)
    → tokens ys ≡ text_token false s ∷ tokens zs → read (91 ∷ zs) ≡ Some (array ds) → read (91 ∷ ys) ≡ Some (array (item (string s) ds))
item_step_at d e ys zs s ds t h =
    let h' = rw (← e) at h in
    rw (← e) (unfold serde_json_on_literals in grind (arith, t, h'))

-- one more string at the front of a list
pub item_step : (ys zs s : List ℕ) (ds : Items) → tokens ys ≡ text_token false s ∷ tokens zs → read (91 ∷ zs) ≡ Some (array ds) → read (91 ∷ ys) ≡ Some (array (item (string s) ds))
item_step = item_step_at 125 refl
