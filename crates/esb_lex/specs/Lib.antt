pub mod Bases
pub mod Pieces
pub mod Answers
