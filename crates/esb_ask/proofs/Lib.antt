pub mod Tables
pub mod SameTask
