use Rattle.std.proofs.Common.{◌≡◌, ◌+◌, ◌*◌, ◌/◌, [], ◌∙◌, length, get_or, refl, sym, ap, arith, rules, slice_index, get_or-drop}
use Rattle.std.specs.Int.RustNames.{count_ones}
use Rattle.enumset_array.proofs.RowWords.{bits_in, one_more, four_ones, four_more}
use Rattle.enumset_array.proofs.WordLanes.{chunk_here}
use Rattle.enumset_array.proofs.lanes.ones_of.Goals as goal

pub loop-a-preserved : goal.loop-a-preserved
loop-a-preserved c =
    let i = 4 * c.loop-a.a-index in
    let chunk = chunk_here c.args.words.now c.as_chunks.result.0.now _ c.loop-a.a-index c.as_chunks.ensures.front c.as_chunks.ensures.front_len c.loop-a-test.true refl in
    record {
      counted = (λ j. c.loop-a.invariant.counted j + (sym (four_ones (get_or c.as_chunks.result.0.now c.loop-a.a-index []) chunk.1) ∙ ap bits_in chunk.0) j)
          ∙ sym (four_more c.args.words.now i (4 * (c.loop-a.a-index + 1)) (omega arith));
      small = search rules;
    }

pub loop-word-preserved : goal.loop-word-preserved
loop-word-preserved c =
    let i = length c.args.words.now / 4 * 4 + c.loop-word.word-index in
    let here : slice_index c.as_chunks.result.1.now c.loop-word.word-index ≡ slice_index c.args.words.now i =
    ap (λ ws. slice_index ws c.loop-word.word-index) c.as_chunks.ensures.back ∙ get_or-drop (length c.args.words.now / 4 * 4) c.args.words.now c.loop-word.word-index 0 in
    record {
      counted = (λ j. c.loop-word.invariant.counted j + ap count_ones here j) ∙ sym (one_more c.args.words.now i (length c.args.words.now / 4 * 4 + (c.loop-word.word-index + 1)) (omega arith) (omega (arith, c.as_chunks.ensures.back_len)));
      small = search rules;
    }
