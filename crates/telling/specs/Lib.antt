pub mod Bound
pub mod Ranged
pub mod ReadBack
pub mod Typed
