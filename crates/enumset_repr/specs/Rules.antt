-- Rules for a search, each proved: laws in the form in which a search finds where to use them, by what they decide.
-- Their rulesets come to users by `Rattle.enumset.specs.Sets`. A proof by hand cites the laws themselves (`Laws`).
--     Members      facts of sets, decided by their members
--     Ends      the least and the greatest member, the list of the members, what `find` finds
--     Counts      how many members
--     Iteration      loops over a set's iterator
--     Numbers      numbers of sets: their order, and bits masked out of an integer
pub mod Members
pub mod Ends
pub mod Counts
pub mod Iteration
pub mod Numbers
