pub mod Frames
pub mod Digits
pub mod Texts
