use Rattle.std.proofs.Common.{sym, ◌∙◌, arith, ap}
use Rattle.enumset_repr.specs.Laws.WordLists.{word_bits_of, put_next, all_put, none_put}
use Rattle.enumset_repr.specs.Words.{bits_of, with_word}
use Rattle.enumset_repr.proofs.repr.EnumSetTypeRepr.from_u64_slice.Goals as goal

pub loop-i-init : goal.loop-i-init
loop-i-init g c = ap g.Self.EnumSetTypeRepr.members c.EMPTY-repr.ensures ∙ g.met.Self.EnumSetTypeRepr.represents.no_member ∙ sym (none_put (bits_of c.args.v.now) _)

pub loop-i-preserved : goal.loop-i-preserved
loop-i-preserved g c =
    c.put_word.ensures
    ∙ (λ j. with_word (c.loop-i.invariant j) g.Self.EnumSetTypeRepr.WIDTH c.loop-i.i (sym (word_bits_of c.args.v.now c.loop-i.i (λ k. (c.type_inv.v k).fits)) j))
    ∙ put_next (bits_of c.args.v.now) g.Self.EnumSetTypeRepr.WIDTH c.loop-i.i

pub returns : goal.returns
returns g c = c.loop-i.invariant ∙ all_put c.args.v.now g.Self.EnumSetTypeRepr.WIDTH g.Self.EnumSetTypeRepr.PREFERRED_ARRAY_LEN c.loop-i.i (λ k. (c.type_inv.v k).fits) g.met.Self.EnumSetTypeRepr.represents.word_count (omega (arith, c.min-i-end.ensures, c.PREFERRED_ARRAY_LEN.ensures, c.loop-i-test.false))
