pub mod Chosen
pub mod Held
pub mod Waiting
pub mod Words
pub mod Finishing
