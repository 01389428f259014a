use Rattle.std.proofs.Common.{◌≡◌, ◌+◌, ◌%◌, ◌^◌, take, fold}
use Rattle.tests_of_sets.proofs.worked_examples.hashes.ByteSumHasher.write.Given as goal

-- the bytes so far were added
abbrev pub invariant-loop-byte : goal.invariant-loop-byte
invariant-loop-byte l = l.self.0 ≡ fold (λ sum byte. (sum + byte) % 2 ^ 64) l.initial.self.0 (take l.byte-index l.bytes)
