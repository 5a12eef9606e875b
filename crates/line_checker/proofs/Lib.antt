pub mod Records
pub mod Out
pub mod FromList
pub mod LineCheck
pub mod IntervalsFound
pub mod RecordCalls
pub mod NodesFound
pub mod ExtendFound
