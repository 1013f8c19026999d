pub mod RuleLines
pub mod ItemSteps
pub mod DirectiveSteps
pub mod GatherSteps
pub mod RepeatedSteps
