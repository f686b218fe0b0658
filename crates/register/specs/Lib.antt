pub mod Meaning
pub mod Answers
pub mod BitRows
pub mod BitMeaning
pub mod ListMeaning
pub mod Laws
