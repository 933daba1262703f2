pub mod Fronts
pub mod Joinings
pub mod Pages
pub mod Meanings
