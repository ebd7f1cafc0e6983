pub mod StillWorking
pub mod CountsSum
pub mod CountsMost
pub mod ComingBack
pub mod AllOrNone
pub mod SetsSeen
pub mod Answering
pub mod OutageExamples
