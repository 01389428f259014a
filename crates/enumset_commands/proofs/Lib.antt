pub mod Parts
pub mod Lines
pub mod Tokens
pub mod Fields
pub mod WordTokens
