pub mod TokenLines
pub mod LevelLines
pub mod FitLines
pub mod Adding
