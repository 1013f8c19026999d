pub mod Leaves
pub mod Operators
pub mod Lists
pub mod Laws
