pub mod SameKind
pub mod Moves
pub mod Agreeing
