pub mod FarWords
