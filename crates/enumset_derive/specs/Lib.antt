pub mod Items
pub mod JsonNames
pub mod Numbers
pub mod Variants
pub mod Plans
pub mod Laws
