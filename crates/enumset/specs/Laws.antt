-- Laws for users' proofs, besides the laws of `enumset_repr`; the proofs of the functions of `laws` use them.
--     Bits      numbers with the same bits, and with all bits below a width; rulesets of numbers and of listed bits
--     BothEnds      steps from both ends of a list
pub mod Bits
pub mod BothEnds
