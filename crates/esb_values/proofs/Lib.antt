pub mod Covering
pub mod Plain
pub mod Steps
pub mod Tokens
pub mod NoLinks
pub mod ReadFirst
pub mod Facts
pub mod Whole
