pub mod Acknowledged
pub mod Allowed
pub mod Answered
mod Batches
pub mod Counted
pub mod Driven
pub mod Ended
pub mod Found
pub mod GoingOn
pub mod Idle
pub mod ItemsSaid
pub mod Joined
pub mod Lists
pub mod Making
pub mod Moving
pub mod Outcomes
mod Putting
pub mod PutsTogether
pub mod Ran
pub mod Roomy
pub mod Running
pub mod Same
pub mod Taken
pub mod Together
pub mod Told
mod TurnedOver
pub mod Went
