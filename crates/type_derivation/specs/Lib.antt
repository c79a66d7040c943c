pub mod Examples
pub mod TreeLists
pub mod TypedViews
pub mod Failures
pub mod ListedTrees
