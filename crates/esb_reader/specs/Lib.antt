pub mod Kinds
pub mod Places
pub mod Reader
pub mod Parts
pub mod Stands
pub mod Laws
