pub mod Codes
pub mod Counts
pub mod Deep
pub mod Exact
pub mod Listed
pub mod Nodes
pub mod Numbers
pub mod Quoted
