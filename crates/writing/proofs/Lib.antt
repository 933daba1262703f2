pub mod RowsPut
pub mod HeaderPut
pub mod RunsPut
pub mod FilePut
pub mod FileAgain
