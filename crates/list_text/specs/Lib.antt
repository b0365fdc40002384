pub mod Listing
pub mod Printing
