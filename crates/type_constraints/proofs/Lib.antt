mod Integers
mod Least
mod Seen
mod Settled
mod WaysUp
