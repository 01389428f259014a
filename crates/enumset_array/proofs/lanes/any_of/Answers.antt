use Rattle.std.proofs.Common.{◌≡◌, ◌+◌, ◌*◌, ◌/◌, [], length, arith}
use Rattle.std.proofs.lemmas.List.{length_push}
use Rattle.std.proofs.lemmas.Slice.Zip.{zip_turn, zip_end}
use Rattle.std.specs.Simd.Lanes.{zip2}
use Rattle.enumset_array.proofs.WordLanes.{lanes_ended, next_chunk, next_word, ended_words}
use Rattle.enumset_array.proofs.lanes.any_of.Goals as goal

pub loop-chunk-preserved : goal.loop-chunk-preserved
loop-chunk-preserved g c =
    let turn = zip_turn c.as_chunks.result.0.now c.as_chunks-2.result.0.now c.loop-chunk.yielded c.into_iter-chunk-iterator.result c.loop-chunk.chunk-iterator c.next.new.self c.next.result (cc) (cc) c.loop-chunk.yielded_by _ c.in-Some.is c.next.ensures.steps in
    next_chunk _ _ _ c.requires _ _ _ _ _ _ _ _ c.as_chunks.ensures.front c.as_chunks.ensures.front_len c.as_chunks-2.ensures.front c.as_chunks-2.ensures.front_len turn.0 turn.1 (turn.2 []) (turn.3 []) c.on_lanes-lanes.ensures (length_push _ _) c.loop-chunk.auto.lanes.0 c.loop-chunk.invariant

pub loop-word-init : goal.loop-word-init
loop-word-init g c =
    let ended = zip_end c.as_chunks.result.0.now c.as_chunks-2.result.0.now c.loop-chunk.yielded c.into_iter-chunk-iterator.result c.loop-chunk.chunk-iterator c.next.new.self c.next.result (cc) (cc) c.loop-chunk.yielded_by c.in-None.is c.next.ensures.steps in
    let done : 4 * length c.loop-chunk.yielded ≡ length c.args.words.now / 4 * 4 + 0 = omega (arith, ended, c.as_chunks.ensures.front_len, c.as_chunks-2.ensures.front_len, c.requires) in
    lanes_ended (zip2 g.O.SetOperation.of_words c.args.words.now c.args.others.now) c.loop-chunk.lanes _ _ c.loop-chunk.invariant done

pub loop-word-preserved : goal.loop-word-preserved
loop-word-preserved g c =
    let turn = zip_turn c.as_chunks.result.1.now c.as_chunks-2.result.1.now c.loop-word.yielded c.into_iter-word-iterator.result c.loop-word.word-iterator c.next-in-loop-word.new.self c.next-in-loop-word.result (cc) (cc) c.loop-word.yielded_by _ c.in-Some-2.is c.next-in-loop-word.ensures.steps in
    next_word _ _ _ c.requires _ _ _ _ _ _ _ _ c.as_chunks.ensures.back c.as_chunks-2.ensures.back turn.0 (turn.2 0) (turn.3 0) c.on_words-any.ensures (length_push _ _) c.loop-word.invariant

pub returns : goal.returns
returns g c =
    let ended = zip_end c.as_chunks.result.1.now c.as_chunks-2.result.1.now c.loop-word.yielded c.into_iter-word-iterator.result c.loop-word.word-iterator c.next-in-loop-word.new.self c.next-in-loop-word.result (cc) (cc) c.loop-word.yielded_by c.in-None-2.is c.next-in-loop-word.ensures.steps in
    ended_words _ _ _ c.requires _ _ (omega (arith, ended, c.requires, c.as_chunks.ensures.back_len, c.as_chunks-2.ensures.back_len)) c.loop-word.invariant
