-- Rules for a search: which bits the folds of a list of sets have, wherever the fold and the number are in sight. They
-- go with `decided` of `enumset_repr`: the first lines of its file say why a rule has a dummy variable.
--     .._once      which bits a fold has
-- The ruleset `folds_once` has these, folds as subsets and as disjoint sets, one more set, and one set after another.
use Rattle.std.proofs.Common.{◌≡◌, ℕ, Bool, ◌&&◌, ◌||◌, List, fold, refl}
use Rattle.std.specs.List.{list_all, list_any}
use Rattle.enumset_repr.specs.BitSet.{BitSet, contains, union, intersection}
use Rattle.enumset_repr.specs.Rules.Members.{at}
use Rattle.enumset_sets.specs.Folds.{union_all}
use Rattle.enumset_sets.specs.Laws.ManySets.{contains_union_all, contains_fold_union, contains_fold_intersection, fold_is_subset, union_all_is_subset, fold_is_disjoint, union_all_is_disjoint, intersection_all_more, union_all_none, union_all_step}

pub union_all_once : (ss : List BitSet) (q : ℕ) (w : Bool) → (union_all ss ≡ union_all ss) × (at q w ≡ at q w) × (contains (union_all ss) q ≡ list_any (λ s. contains s q) ss)
union_all_once ss q w = (refl, refl, contains_union_all ss q)

pub fold_union_once : (s : BitSet) (ts : List BitSet) (q : ℕ) (w : Bool) → (fold union s ts ≡ fold union s ts) × (at q w ≡ at q w) × (contains (fold union s ts) q ≡ (contains s q || list_any (λ t. contains t q) ts))
fold_union_once s ts q w = (refl, refl, contains_fold_union s ts q)

pub fold_intersection_once : (s : BitSet) (ts : List BitSet) (q : ℕ) (w : Bool) → (fold intersection s ts ≡ fold intersection s ts) × (at q w ≡ at q w) × (contains (fold intersection s ts) q ≡ (contains s q && list_all (λ t. contains t q) ts))
fold_intersection_once s ts q w = (refl, refl, contains_fold_intersection s ts q)

-- what it proves: which members a union or an intersection of a list of sets has, and whether it is a subset or
-- disjoint
pub ruleset folds_once = (union_all_once, fold_union_once, fold_intersection_once, fold_is_subset, union_all_is_subset, fold_is_disjoint, union_all_is_disjoint, intersection_all_more, union_all_none, union_all_step)
