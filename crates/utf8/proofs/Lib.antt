pub mod Laws
pub mod Grammar
pub mod Scalar
