pub mod Picture
pub mod Templates
pub mod Svg
pub mod Plain
pub mod JsonPicture
pub mod Laws
