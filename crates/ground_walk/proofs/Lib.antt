pub mod CountingSteps
pub mod LeafSteps
pub mod FormSteps
pub mod SentenceSteps
pub mod StartSteps
pub mod BoundedRows
pub mod GroundableLaws
pub mod AggregateSteps
mod LedSteps
