use Rattle.std.proofs.Common.{◌≡◌, ◌<◌, ℕ, ◌+◌, List, [], ◌∷◌, ◌++◌, length, take, set, sym, ◌∙◌, arith}
use Rattle.std.proofs.lemmas.List.{take_more_set}
use Rattle.enumset_repr.specs.BitSet.{BitSet}
use Rattle.enumset_repr.specs.Laws.WordLists.{words_none, words_more, word_past_repr}
use Rattle.enumset_repr.specs.Words.{word, words}
use Rattle.enumset_repr.proofs.repr.EnumSetTypeRepr.to_u64_slice.Goals as goal

-- place i gets its word
placed : (s : BitSet) (out : List ℕ) (i x : ℕ) → i < length out → take i out ≡ words s i → x ≡ word s i → take (i + 1) (set out i x) ≡ words s (i + 1)
placed s out i x within before is = take_more_set out i x within ∙ (λ j. before j ++ is j ∷ []) ∙ sym (words_more s i)

pub loop-i-init : goal.loop-i-init
loop-i-init g c = sym (words_none _)

pub loop-i-preserved : goal.loop-i-preserved
loop-i-preserved g c = placed _ c.loop-i.out c.loop-i.i c.word.result (omega arith) c.loop-i.invariant c.word.ensures

pub loop-place-preserved : goal.loop-place-preserved
loop-place-preserved g c = placed _ c.loop-place.out c.loop-place.place 0 (omega arith) c.loop-place.invariant
    (sym (word_past_repr _ _ _ c.loop-place.place (g.met.Self.EnumSetTypeRepr.represents.within c.args.self.now c.learn_is_value.ensures) g.met.Self.EnumSetTypeRepr.represents.word_count (omega arith)))
