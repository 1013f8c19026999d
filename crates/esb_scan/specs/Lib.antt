pub mod Paths
pub mod Messages
pub mod Loaders
pub mod Unbuilt
pub mod Likeness
pub mod Scripts
pub mod Run
pub mod Complete
