pub mod Parts
pub mod Layout
pub mod LayoutLaws
pub mod Reading
pub mod ReadingLaws
pub mod Told
