pub mod Contents
pub mod Values
pub mod Laws
