pub mod Kept
pub mod Safe
