pub mod Named
pub mod Sums
pub mod Tests
pub mod JsonNames
