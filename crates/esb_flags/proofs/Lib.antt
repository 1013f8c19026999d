pub mod Cuts
pub mod Seen
pub mod Accepts
pub mod Named
pub mod Says
pub mod Repeats
