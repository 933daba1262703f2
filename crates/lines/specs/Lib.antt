pub mod Vocabulary
pub mod Grammar
pub mod Forms
pub mod Readings
pub mod Meaning
