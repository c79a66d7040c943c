pub mod NumberedViews
