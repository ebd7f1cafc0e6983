pub mod Tracing
pub mod WrittenNumbers
pub mod Demand3
pub mod EndingCall
pub mod Executing
pub mod TraceExists
pub mod InTheProgram
pub mod RecordsRest
