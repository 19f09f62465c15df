pub mod Accepted
pub mod Flowed
pub mod Answer
pub mod Inside
pub mod Levels
