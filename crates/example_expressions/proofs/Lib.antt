mod Answered
pub mod Characters
pub mod Firsts
pub mod Reading
pub mod Written
