pub mod Changed
pub mod FixedPointLaws
pub mod Laws
pub mod Unknown
