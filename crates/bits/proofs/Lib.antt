pub mod Bits
pub mod Laws
pub mod Counts
pub mod Words
