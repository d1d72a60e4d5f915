pub mod Components
pub mod Equals
pub mod ListedPuts
pub mod Numbered
pub mod Stated
pub mod Told
pub mod TwoKinds
