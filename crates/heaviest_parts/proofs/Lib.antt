mod Fits
mod Counts
