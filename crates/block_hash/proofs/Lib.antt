-- the laws that the proofs share
pub mod Laws
