pub mod Marks
pub mod Specifiers
pub mod Items
pub mod Exact
pub mod Module
pub mod Laws
