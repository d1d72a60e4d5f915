pub mod Copied
pub mod Leaving
pub mod LogTold
pub mod LogWritten
pub mod Refused
pub mod Sinks
