pub mod Fields
pub mod Verbs
pub mod Lines
pub mod Texts
