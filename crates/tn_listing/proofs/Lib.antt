mod LinesLemmas
mod PiecesLemmas
mod WrittenLemmas
pub mod OutputLemmas
pub mod OutputLengths
