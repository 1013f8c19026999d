pub mod PointSteps
pub mod StringSteps
