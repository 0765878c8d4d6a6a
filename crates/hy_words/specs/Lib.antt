pub mod Lists
pub mod Words
pub mod Heaps
pub mod Stands
pub mod Names
pub mod Fields
pub mod Heights
pub mod Laws
