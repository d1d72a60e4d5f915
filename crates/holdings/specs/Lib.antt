pub mod Holdings
pub mod ImageLaws
pub mod Listing
pub mod Reading
