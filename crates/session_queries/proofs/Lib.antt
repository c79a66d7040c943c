pub mod QueryLemmas
pub mod MinimumLemmas
pub mod OpenLemmas
pub mod TaskLemmas
