pub mod Formats
pub mod Got
pub mod Named
pub mod ObjectLines
pub mod ReportText
pub mod Sinks
pub mod TableText
