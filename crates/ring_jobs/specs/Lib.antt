pub mod Shapes
pub mod Fitted
pub mod RingJobs
