pub mod Parts
pub mod Named
pub mod Boards
pub mod Places
pub mod Desks
pub mod Opened
pub mod Taken
