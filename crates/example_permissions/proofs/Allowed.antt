-- The rights of more roles and of fewer: the ruleset `on_roles`.
use Rattle.std.proofs.Common.{◌≡◌, ℕ, true, List, [], ◌∷◌, refl, arith}
use Rattle.enumset.specs.Sets.{BitSet, contains, insert, remove}
use Rattle.enumset_repr.specs.Laws.Members.{members}
use Rattle.example_permissions.specs.declared.policy.Grant.{Grant}
use Rattle.example_permissions.specs.Policy.{role_bit, is_granted}

granted_more : (grants : List Grant) (few many : BitSet) → ((q : ℕ) → contains few q ≡ true → contains many q ≡ true)
    → (q : ℕ) → is_granted grants few q ≡ true → is_granted grants many q ≡ true
granted_more [] few many within q one = one
granted_more (g ∷ gs) few many within q one = let rest = granted_more gs few many within q in let here = within (role_bit g.role) in grind arith

-- the first part of each is always true: it tells the search where to apply the law
pub inserted : (grants : List Grant) (roles : BitSet) (role q : ℕ)
    → (is_granted grants (insert roles role) q ≡ is_granted grants (insert roles role) q) × (is_granted grants roles q ≡ true → is_granted grants (insert roles role) q ≡ true)
inserted grants roles role q = (refl, granted_more grants roles (insert roles role) (λ q one. grind (arith, members)) q)

pub removed : (grants : List Grant) (roles : BitSet) (role q : ℕ)
    → (is_granted grants (remove roles role) q ≡ is_granted grants (remove roles role) q) × (is_granted grants (remove roles role) q ≡ true → is_granted grants roles q ≡ true)
removed grants roles role q = (refl, granted_more grants (remove roles role) roles (λ q one. grind (arith, members)) q)

pub ruleset on_roles = (inserted, removed)
