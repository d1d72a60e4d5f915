pub mod Free
pub mod Replayed
