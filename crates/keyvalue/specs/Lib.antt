pub mod Scan
pub mod KeyValue
