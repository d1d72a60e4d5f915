pub mod Worked
pub mod Concluded
pub mod Driver
