pub mod Appending
pub mod Appends
pub mod Reading
pub mod Spelling
pub mod Standing
pub mod Starting
