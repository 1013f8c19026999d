pub mod Joints
pub mod Classes
pub mod Nodes
pub mod Whole
pub mod Printing
