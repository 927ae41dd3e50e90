pub mod Words
pub mod Ends
pub mod PrettyEnds
pub mod FunTests
