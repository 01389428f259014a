pub mod Machines
pub mod Events
pub mod Texts
