pub mod Review
pub mod NodeFacts
pub mod Laws
