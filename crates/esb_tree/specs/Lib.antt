pub mod Yields
pub mod Gathered
pub mod Levels
pub mod Trees
pub mod Fits
pub mod Modules
pub mod Operators
