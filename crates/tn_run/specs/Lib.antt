pub mod Ends
pub mod Scripts
pub mod RestingSeats
pub mod RefusalForms
pub mod Jobs
pub mod Answers
pub mod Workers
pub mod Laws
