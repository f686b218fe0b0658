pub mod Kinds
pub mod Lists
pub mod Sets
