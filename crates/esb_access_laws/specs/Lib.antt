pub mod Links
pub mod Access
pub mod Laws
