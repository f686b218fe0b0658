mod Few
pub mod Known
pub mod Told
