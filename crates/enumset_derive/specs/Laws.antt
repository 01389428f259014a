-- Laws of the definitions, each proved.
--     Plans      a lawful plan proves the laws of every enum without fields that has as many variants
pub mod Plans
