pub mod Laws
pub mod RequestCall
