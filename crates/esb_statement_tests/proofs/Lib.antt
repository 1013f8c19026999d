pub mod Lasts
pub mod Steps
pub mod Whole
