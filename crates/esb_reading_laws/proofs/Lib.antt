pub mod Steps
pub mod Rows
pub mod Composed
pub mod Chains
pub mod Gains
