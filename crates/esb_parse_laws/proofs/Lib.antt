pub mod LevelParts
pub mod Agreeing
pub mod Turns
pub mod Ends
pub mod Below
pub mod Parts
pub mod Trees
