pub mod CommonLines
mod AlignmentRows
