pub mod Data
pub mod Files
mod Printed
