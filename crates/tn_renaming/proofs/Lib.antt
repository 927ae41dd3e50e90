mod Matches
mod TermMatches
mod Searches
