-- Laws of the definitions, each proved, for the crates above.
--     Items      the bits of the items of an iterator
pub mod Items
