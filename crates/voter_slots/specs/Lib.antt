pub mod Export
pub mod Calls
pub mod Lent
pub mod ExportLaws
pub mod CallLaws
pub mod LentLaws
