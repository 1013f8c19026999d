pub mod Segments
pub mod Paths
