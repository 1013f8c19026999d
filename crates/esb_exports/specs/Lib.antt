pub mod Units
pub mod Segments
pub mod Keys
pub mod Outcomes
pub mod Targets
