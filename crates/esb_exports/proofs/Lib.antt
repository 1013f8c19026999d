pub mod Stars
pub mod Escapes
pub mod Decimals
pub mod Nodes
pub mod Opened
pub mod Closest
pub mod Parts
pub mod Files
