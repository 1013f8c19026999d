pub mod Postfix
pub mod Suffixes
pub mod Forks
pub mod Ends
pub mod Unary
pub mod Ladder
pub mod Laws
