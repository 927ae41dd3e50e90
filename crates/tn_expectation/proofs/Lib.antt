pub mod FirstLines
mod AllLines
