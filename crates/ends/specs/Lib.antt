pub mod Ends
pub mod EndsLaws
