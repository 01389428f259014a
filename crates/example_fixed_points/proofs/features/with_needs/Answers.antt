use Rattle.std.proofs.Common.{rules}
use Rattle.enumset.specs.FixedPoints.{least_closed_reachable}
use Rattle.example_fixed_points.specs.Features.{needs_table}
use Rattle.example_fixed_points.proofs.features.with_needs.Goals as goal

pub returns : goal.returns
returns c = let least = c.reachable.ensures needs_table (search rules) in record { least = least; reached = least_closed_reachable _ _ _ least }
