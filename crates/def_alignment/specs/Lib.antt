pub mod Alignments
pub mod AlignmentLaws
