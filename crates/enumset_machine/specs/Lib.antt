pub mod States
pub mod Plans
pub mod Runs
pub mod MixedRuns
pub mod Replies
pub mod Answers
pub mod WorkedTypes
