mod ByName
mod Columns
mod Lines
mod Names
mod OneReport
mod Reports
pub mod SameMembers
