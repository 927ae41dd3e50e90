pub mod Agreements
pub mod SameForms
pub mod SamePrograms
pub mod SameSessions
pub mod Fronts
pub mod OneLine
