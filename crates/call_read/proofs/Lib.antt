pub mod ReadCall
