mod Lists
mod Tables
pub mod Laws
