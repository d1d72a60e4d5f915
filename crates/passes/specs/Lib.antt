pub mod Known
pub mod Rule
pub mod Steps
pub mod Opening
pub mod Visits
pub mod Roll
