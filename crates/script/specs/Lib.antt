pub mod Answered
pub mod Faults
pub mod Forms
pub mod Lexemes
pub mod Numbers
pub mod Requests
pub mod Script
pub mod Tokens
