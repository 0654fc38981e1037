pub mod Codec
pub mod FitsLaws
pub mod GoodLaws
pub mod ReadHeld
pub mod ReadLaws
pub mod CodecLaws
pub mod EntryLaws
