pub mod UnitSteps
pub mod Answered
