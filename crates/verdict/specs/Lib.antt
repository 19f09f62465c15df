pub mod Answers
pub mod Results
pub mod Called
pub mod Worked
pub mod Words
