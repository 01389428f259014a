pub mod FrameLaws
pub mod DigitLaws
