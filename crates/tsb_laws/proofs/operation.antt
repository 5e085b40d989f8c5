-- The laws of operation. Each file says at its head which law it serves.
pub mod step
pub mod green
pub mod calls
pub mod barrier
pub mod pattern
pub mod preempt
pub mod recycle
pub mod overlap
pub mod Examples
