pub mod Closings
pub mod Last
