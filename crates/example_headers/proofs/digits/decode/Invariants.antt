use Rattle.std.proofs.Common.{◌≡◌}
use Rattle.std.specs.Slice.Iter.{chunks_rest, chunks_size}
use Rattle.example_headers.specs.Digits.{bytes_of}
use Rattle.example_headers.proofs.DigitLaws.{after}
use Rattle.example_headers.proofs.digits.decode.Given as goal

-- the bytes so far, and then the bytes of the remaining digits, are all
abbrev pub invariant-loop-pair : goal.invariant-loop-pair
invariant-loop-pair l = record {
  size : chunks_size l.pair-iterator ≡ 2;
  read : after l.bytes.items (bytes_of (chunks_rest l.pair-iterator)) ≡ bytes_of l.text;
}
