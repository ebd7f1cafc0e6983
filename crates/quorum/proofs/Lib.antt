-- What a reader looks for, and what the crates above may use; the other files are the reasons, and no other crate can name them.
pub mod CheckAccepts
pub mod CheckEven
pub mod WidthSmallest
pub mod Promises
mod CommonParts
mod Families
mod Sorted
mod Thinned
mod Widths
mod LimitLaws
mod CommonMember
mod Lacking
mod Minimality
mod Refusals
mod Accepts
mod Needing
mod Leaving
mod Lowering
mod Evenness
mod Cleaning
mod Taking
mod Judging
mod AnswerBounds
mod CheckExamples
pub mod Links
