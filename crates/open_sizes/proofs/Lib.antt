mod Sums
mod Less
mod Small
mod Walks
mod Weighing
mod Passed
mod Unknown
