pub mod Behind
pub mod Fitting
pub mod PrefixSteps
pub mod Steps
