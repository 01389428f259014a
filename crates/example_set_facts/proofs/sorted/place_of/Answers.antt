use Rattle.example_set_facts.proofs.SortedSets.{between, absent}
use Rattle.example_set_facts.proofs.sorted.place_of.Goals as goal

pub returns-clause-between : goal.returns-clause-between
returns-clause-between g c = λ sorted. between _ _ sorted _ c.binary_search.ensures.position

pub returns-clause-absent : goal.returns-clause-absent
returns-clause-absent g c = λ sorted. absent _ _ sorted _ c.binary_search.ensures.position
