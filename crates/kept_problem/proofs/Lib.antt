pub mod JoinLaws
pub mod Prefixes
