pub mod Lists
pub mod EndMembers
pub mod Retain
pub mod Left
