pub mod HistoryLaws
pub mod InUse
pub mod QuorumLaws
pub mod Stored
