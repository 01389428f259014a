use Rattle.std.proofs.Common.{◌≡◌, ◌+◌, ◌*◌, ◌++◌, ◌∷◌, [], Some, length, slice_index, sym, ap, ◌∙◌, arith}
use Rattle.std.specs.Slice.Iter.{chunks_rest}
use Rattle.example_headers.specs.Digits.{digit_of}
use Rattle.example_headers.proofs.DigitLaws.{after, after_more, bytes_of_pair}
use Rattle.example_headers.proofs.digits.decode.Goals as goal

pub loop-pair-preserved : goal.loop-pair-preserved
loop-pair-preserved c =
    let high = c.in-Some-Some.high in
    let low = c.in-Some-Some.low in
    let first : digit_of (slice_index c.in-Some.pair.now 0) ≡ Some high = grind arith in
    let second : digit_of (slice_index c.in-Some.pair.now 1) ≡ Some low = grind arith in
    let two : length c.in-Some.pair.now ≡ 2 = omega arith in
    let cut : chunks_rest c.loop-pair.pair-iterator ≡ c.in-Some.pair.now ++ chunks_rest c.next.new.self = grind arith in
    let items : c.push.new.self.items ≡ c.loop-pair.bytes.items ++ (high * 16 + low) ∷ [] = grind arith in
    record {
      size = grind arith;
      read = rw items (sym (after_more c.loop-pair.bytes.items (high * 16 + low) _)
          ∙ ap (after c.loop-pair.bytes.items) (sym (bytes_of_pair _ _ _ high low cut two first second)) ∙ c.loop-pair.invariant.read);
    }
