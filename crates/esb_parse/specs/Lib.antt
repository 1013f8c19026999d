pub mod Knot
pub mod Trees
