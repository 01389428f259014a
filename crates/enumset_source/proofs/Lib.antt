pub mod Digits
pub mod Sources
