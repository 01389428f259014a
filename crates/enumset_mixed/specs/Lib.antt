pub mod Mixed
pub mod Texts
pub mod Calls
pub mod Laws
