pub mod OpenTasks
pub mod Picking
pub mod Searches
