pub mod Call
pub mod Move
pub mod Order
pub mod Run
pub mod There
pub mod Every
