pub mod Of
pub mod Cells
pub mod Written
pub mod Made
pub mod Taken
pub mod Soundness
