pub mod Answer
pub mod AnswerLaws
pub mod Identity
pub mod Utf8
pub mod Utf8Laws
pub mod Text
pub mod TextLaws
pub mod Conditions
