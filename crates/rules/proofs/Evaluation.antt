pub mod Every
pub mod Inside
pub mod Keeps
pub mod Laws
pub mod Places
