pub mod Format
pub mod Numbers
pub mod Reading
pub mod Handed
pub mod Framing
pub mod Commanded
pub mod Tiling
pub mod Walking
