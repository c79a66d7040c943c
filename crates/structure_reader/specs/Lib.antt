pub mod DataReads
