pub mod Ending
pub mod AssignmentRules
