pub mod FirstKinds
pub mod LinkRules
pub mod AccessRules
