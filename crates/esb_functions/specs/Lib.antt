pub mod Bodies
pub mod Definitions
pub mod Heads
