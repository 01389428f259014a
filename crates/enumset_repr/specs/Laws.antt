-- Laws of the definitions, each proved. Nothing here has to be believed: contracts cite only the definitions. The laws
-- are in specs/ so that representations, and the crates above, can cite them. What only a search uses is in `Rules`.
--     Members      what `contains` returns for each set, subsets, and that sets with the same members are equal
--     Model      the equations that determine the model
--     Algebra      the algebra of sets, for users' proofs: order, grouping, De Morgan, inserting and removing
--     Sets      one set inside and outside another: parts, complements, subsets by equations
--     Lattice      sets under inclusion: antisymmetry, bounds, monotony
--     Retain      the members that pass a test
--     Ascending      the list of the members, and `len`
--     Counting      how many members sets have
--     Induction      induction over sets: by insertion, by the least or the greatest member, by proper subsets
--     Sums      folds and sums over a set, and the number of a set as a sum
--     Images      the image of a set under a function
--     Pigeonhole      members that must be there, by the sizes of sets
--     Ends      the least and the greatest member, and steps from an end of a list
--     Firsts      the first and the last member, and the list of a set that is written out
--     EndsOfUnions      the least and the greatest member of unions and subsets, and the list of a union
--     Iteration      tests of the list of the members, and the numbers at its places
--     Order      the order of two sets, and the greater and the lesser of them
--     Numbers      sets and numbers, at every width
--     Widths      sets cut at a width, and sets and numbers that fit one
--     Words      words of 64 bits
--     WordLists      lists of words of 64 bits, and the words of a set
--     BitLists      the set of a number, or of words, whose bits are listed
--     Representations      the laws of a representation that states its parts as sets and lists, and counts no asks
--     Integers      an integer as a representation, and numbers with bits masked out
--     Hashes      what integers and lists of words feed to a hasher
pub mod Members
pub mod Model
pub mod Algebra
pub mod Sets
pub mod Lattice
pub mod Retain
pub mod Ascending
pub mod Counting
pub mod Induction
pub mod Sums
pub mod Images
pub mod Pigeonhole
pub mod Ends
pub mod Firsts
pub mod EndsOfUnions
pub mod Iteration
pub mod Order
pub mod Numbers
pub mod Widths
pub mod Words
pub mod WordLists
pub mod BitLists
pub mod Representations
pub mod Integers
pub mod Hashes
