pub mod Answers
pub mod Decision
pub mod Policy
pub mod Reading
pub mod Texts
