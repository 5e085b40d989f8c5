pub mod HeldLemmas
pub mod MonitorCellLemmas
pub mod InputLemmas
pub mod DeskLemmas
pub mod PartLemmas
pub mod PassingLemmas
pub mod ShownLemmas
pub mod ValueLemmas
pub mod SessionLemmas
pub mod WatchedLemmas
pub mod RoomLemmas
pub mod TellingLemmas
pub mod Examples
pub use Rattle.tsb_machine.proofs as tsb_machine
pub use Rattle.tsb_step.proofs as tsb_step
