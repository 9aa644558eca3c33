pub use Rattle.thr_trip.specs.PortTable
pub use Rattle.thr_trip.specs as ThrTrip
pub use Rattle.thr_trip.specs.VcpuShelf
pub mod Names
pub mod Set
pub mod Split
pub mod Cast
pub mod Crew
pub mod Answers
pub mod Back
