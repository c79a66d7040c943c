pub mod Outlasting
