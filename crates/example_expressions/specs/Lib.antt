pub mod Answers
pub mod Faults
pub mod First
pub mod Grammar
pub mod States
pub mod Texts
pub mod Tokens
pub mod Values
