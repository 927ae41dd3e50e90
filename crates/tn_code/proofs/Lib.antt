pub mod Tests
pub mod Growth
