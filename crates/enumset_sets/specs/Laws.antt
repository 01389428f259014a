-- Laws of the definitions, each proved. They are in specs/ so that the laws of an element type and users' proofs can
-- cite them.
--     Calls      what the calls of a closure say of the bits that an iterator had left
--     Conversions      sets cut at a width, and sets taken through words
--     Counts      how many valid bits are left
--     Elements      the laws of an enum without fields, from one test of its bits and constants
--     Filters      what an iterator with a filter yields
--     FixedPoints      unions over the members of a set, monotone steps, and what loops reach by steps
--     FixedPointsOfMany      the same for several sets at once, one in each place of a list
--     Flows      what is in the least closed sets, also where sets flow from place to place
--     Folds      folds of a list with one more item at its end
--     ManySets      unions and intersections of many sets, by which sets there are
--     Inferences      what follows by rules that have conditions
--     Iterators      what iterators that bound their asks yield
--     Places      places that are the bits of an enum's variants
--     Rounds      loops that compare a set before and after a round
--     Texts      the text of a set as it is written
pub mod Conversions
pub mod Counts
pub mod Elements
pub mod FixedPoints
pub mod FixedPointsOfMany
pub mod Inferences
pub mod Places
pub mod Rounds
pub mod Flows
pub mod Folds
pub mod ManySets
pub mod Iterators
pub mod Calls
pub mod Filters
pub mod Texts
