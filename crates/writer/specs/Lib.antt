pub mod Size
pub mod SizeLaws
pub mod PutLaws
pub mod Writes
