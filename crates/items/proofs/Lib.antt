mod Waiting
mod Refusals
