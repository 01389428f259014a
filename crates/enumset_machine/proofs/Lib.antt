pub mod Answered
pub mod Composed
pub mod Cuts
pub mod OneTranscript
pub mod WordsLeave
