pub mod Tests
pub mod Sum
