pub mod StoreFields
pub mod Releasing
pub mod Visits
pub mod Watching
pub use Rattle.clause_base.specs.StoreState
pub use Rattle.clause_base.specs.TrailLaws
pub use Rattle.clause_base.specs.TrailState
