mod Citing
mod Adding
mod Models
mod Answering
mod Stating
mod Claiming
