-- Rules for a search, each proved, as those of `enumset_repr` are.
--     FixedPoints      unions of the rows of a set's members
--     ManySets      unions and intersections of many sets
--     SetLaws      the rulesets for the root of a user's crate, and for a function with a chain
--     ValidBits      which bits are valid, how many, their places in a list, and a sum over them
pub mod FixedPoints
pub mod ManySets
pub mod SetLaws
pub mod ValidBits
