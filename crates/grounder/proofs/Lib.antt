pub mod Theories
