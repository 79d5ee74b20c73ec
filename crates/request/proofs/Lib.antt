pub mod Laws
pub mod Requests
pub mod Accepted
