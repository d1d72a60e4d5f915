pub mod Copies
pub mod LogText
pub mod Logged
pub mod Obeyed
pub mod Outcomes
pub mod Words
