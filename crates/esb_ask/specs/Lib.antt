pub mod Table
pub mod SameQuestion
pub mod Tasks
