-- What a header calls for, and what the call that says so promises.
pub mod Sizes
pub mod Promise
