mod Numbers
pub mod Drives
pub mod Readings
pub mod Plans
