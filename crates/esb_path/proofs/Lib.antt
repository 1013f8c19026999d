pub mod Cuts
pub mod Walks
pub mod Cleaned
pub mod Ways
