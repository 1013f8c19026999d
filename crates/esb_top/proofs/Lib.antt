pub mod Files
pub mod Histories
pub mod InOrder
pub mod Outputs
pub mod Proper
pub mod Sessions
pub mod Turns
pub mod Working
