pub mod StartAfter
pub mod RightsField
pub mod Fen
pub mod Matching
pub mod Candidates
pub mod SanSpelling
pub mod Meaning
pub mod Laws
