pub mod Loose
pub mod Laws
