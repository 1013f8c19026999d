pub mod Settings
pub mod Findings
pub mod Labels
pub mod Roles
pub mod Shapes
pub mod Tests
