pub mod Inheritance
pub mod Chains
pub mod Reach
pub mod Edits
pub mod Laws
