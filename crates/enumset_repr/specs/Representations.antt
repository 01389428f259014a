-- Laws of a representation, in three records.
--     IsRepresentation      the set of each value is below the width, and a value is the one that represents its set.
--         Each set below the width is represented, by a value of the type. `==` and the order are the same as for the
--         sets, and there are as many words as the width needs
--     AreSetOperators      `&`, `|`, `^` and `!` may be applied to any values. They are intersection, union, symmetric
--         difference, and the complement below the width
--     IsListed      an iterator may step from either end at any time. A step yields the first or the last of the items
--         left, a clone has the same items left, and no more items come than are left
-- `Laws/Representations.antt` proves them for types whose contracts state the operators by sets and the iterators by
-- lists.
use Rattle.std.specs.Prelude.{◌≡◌, ℕ, ◌+◌, ◌/◌, ◌↔◌, Bool, IsTrue, List, Option}
use Rattle.std.specs.declared.cmp.Ordering.{Ordering}
use Rattle.std.specs.Iterator.{YieldsFirst, YieldsLast, item_count, Count}
use Rattle.enumset_repr.specs.BitSet.{BitSet, empty, is_subset, union, intersection, symmetric_difference, difference, below}
use Rattle.enumset_repr.specs.Order.{compare}

pub record IsRepresentation {S : Type 0} (members : S → BitSet) (of_members : BitSet → S) (IsValue : S → Type 0) (none : S)
    (width words : ℕ) (eq : S → S → Bool) (cmp : S → S → Ordering) : Type 0 where
  pub no_member : members none ≡ empty
  pub within : (a : S) → IsValue a → IsTrue (is_subset (members a) (below width))
  pub inverse : (a : S) → IsValue a → of_members (members a) ≡ a
  pub represented : (s : BitSet) → IsTrue (is_subset s (below width)) → members (of_members s) ≡ s
  pub is_value : (s : BitSet) → IsTrue (is_subset s (below width)) → IsValue (of_members s)
  pub word_count : words ≡ (width + 63) / 64
  pub equal : (a b : S) → IsValue a → IsValue b → IsTrue (eq a b) ↔ (members a ≡ members b)
  pub ordered : (a b : S) → IsValue a → IsValue b → cmp a b ≡ compare (members a) (members b)

pub record AreSetOperators {S : Type 0} (members : S → BitSet) (IsValue : S → Type 0) (width : ℕ)
    (can_and can_or can_xor : S → S → Type 0) (can_not : S → Type 0)
    (and_gives or_gives xor_gives : S → S → S → Type 0) (not_gives : S → S → Type 0) : Type 0 where
  pub can_bitand : (a b : S) → can_and a b
  pub can_bitor : (a b : S) → can_or a b
  pub can_bitxor : (a b : S) → can_xor a b
  pub can_turn : (a : S) → can_not a
  pub bitand : (a b r : S) → and_gives a b r → members r ≡ intersection (members a) (members b)
  pub bitor : (a b r : S) → or_gives a b r → members r ≡ union (members a) (members b)
  pub bitxor : (a b r : S) → xor_gives a b r → members r ≡ symmetric_difference (members a) (members b)
  pub turned : (a r : S) → IsValue a → not_gives a r → members r ≡ difference (below width) (members a)

pub record IsListed {I : Type 0} (rest : I → List ℕ) (can_next can_next_back : I → Type 0)
    (gives gives_back : I → Option ℕ → I → Type 0) (is_infallible : I → Type 0) (is_clone : I → I → Type 0) (remaining : I → Count) : Type 0 where
  pub can_step : (i : I) → can_next i
  pub can_step_back : (i : I) → can_next_back i
  pub step : (i : I) (r : Option ℕ) (j : I) → gives i r j → YieldsFirst rest i r j
  pub step_back : (i : I) (r : Option ℕ) (j : I) → gives_back i r j → YieldsLast rest i r j
  pub can_clone : (i : I) → is_infallible i
  pub clone : (i j : I) → is_clone i j → rest j ≡ rest i
  pub left : (i : I) → remaining i ≡ item_count rest i
