pub mod SingleTokens
pub mod OperatorChains
pub mod ElementLists
