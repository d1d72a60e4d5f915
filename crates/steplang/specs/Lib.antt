pub mod FaultsOf
pub mod Leaf
pub mod Machine
pub mod Running
pub mod Stages
pub mod Turns
