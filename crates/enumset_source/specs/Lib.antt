pub mod Literals
pub mod Numbers
pub mod OptionValues
pub mod Sources
pub mod Styles
