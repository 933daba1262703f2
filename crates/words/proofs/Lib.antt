pub mod Marks
pub mod Texts
pub mod Rows
pub mod Meanings
