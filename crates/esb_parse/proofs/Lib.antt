pub mod Same
pub mod Room
pub mod Whole
pub mod Handed
pub mod Items
