pub mod Endings
pub mod Unassigned
