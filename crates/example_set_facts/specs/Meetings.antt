-- Meetings, each with the seats that came.
--     visits      to how many meetings the seat of a bit came
use Rattle.std.specs.Prelude.{ℕ, List, count_by}
use Rattle.enumset.specs.Sets.{BitSet, contains}

unfoldable pub visits : List BitSet → ℕ → ℕ
visits meetings q = count_by (λ s. contains s q) meetings
