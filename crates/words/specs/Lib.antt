pub mod Figures
pub mod Letters
pub mod Lines
pub mod Meaning
