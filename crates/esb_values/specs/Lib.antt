pub mod Within
pub mod Handed
pub mod Commas
pub mod ListsFirst
pub mod Behind
pub mod Together
pub mod Owed
