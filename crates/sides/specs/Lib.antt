pub mod First
pub mod Growth
pub mod Looks
pub mod NextCommit
pub mod Reading
pub mod Replaying
pub mod Side
pub mod SideLaws
