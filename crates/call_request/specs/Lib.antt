pub mod RequestCall
