use Rattle.std.proofs.Common.{rules}
use Rattle.enumset_array.specs.ArrayWords.{IsArrayRepr}
use Rattle.enumset_array.proofs.CombinedWords.{made_repr, made_set}
use Rattle.enumset_array.proofs.set_operation.apply.Given.{Over}
use Rattle.enumset_array.proofs.set_operation.apply.Goals as goal

first : (g : Over) (c : goal.After-repr-1 g) → IsArrayRepr g.row.N c.repr.inside.0
first g c = record { long = search rules; fit = search rules; past = c.repr.invariant }

value : (g : Over) (c : goal.After-repr-1 g) → IsArrayRepr g.row.N c.apply_to_words.new.words
value g c = rw (c.apply_to_words.ensures, c.words.ensures.words) (made_repr _ _ g.met.O.SetOperation.on_bits _ _ _ (first g c) c.words.ensures.value)

pub invariant_of-repr : goal.invariant_of-repr
invariant_of-repr g c = (value g c).past

pub returns : goal.returns
returns g c = record {
  value = value g c;
  set = rw (c.apply_to_words.ensures, c.words.ensures.words, ← c.repr.view_is) (made_set _ _ g.met.O.SetOperation.on_bits _ _ _ (first g c) c.words.ensures.value);
}
