pub mod Format
pub mod Layouts
pub mod Layers
pub mod Checks
pub mod Theorems
pub mod RowsIn
pub mod Opened
