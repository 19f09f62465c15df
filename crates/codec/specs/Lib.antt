pub mod Bytes
pub mod Frame
