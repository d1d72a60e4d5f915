pub mod Errors
pub mod Journal
pub mod Places
pub mod Records
pub mod WholeRecords
