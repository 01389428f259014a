-- The laws of lists of words, each proved. Nothing here has to be believed: contracts cite only the definitions.
--     Asks      the steps of an iterator that counts its asks
--     ArrayWords      the laws of the words of an `ArrayRepr`
--     Values      a list of words as one number
--     Operations      the operations on words that do to their bits what operations on sets do
--     Order      lists of words compare as their sets do
pub mod Asks
pub mod ArrayWords
pub mod Operations
pub mod Values
pub mod Order
