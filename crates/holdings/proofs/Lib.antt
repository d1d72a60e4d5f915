pub mod ImageFacts
pub mod ImageParts
pub mod Listed
pub mod Pushed
pub mod ReadLists
pub mod Within
