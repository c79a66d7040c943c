pub mod WholeViews
pub mod EntryViews
pub mod SaidViews
pub mod Naming
