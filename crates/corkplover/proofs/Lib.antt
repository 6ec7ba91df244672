-- Laws of the calls, and what the contract of each one says.
pub mod LevelLaws
pub mod FrameLaws
pub mod ExportLaws
pub mod Calls
pub mod ExportedCalls
pub mod RecordCalls
