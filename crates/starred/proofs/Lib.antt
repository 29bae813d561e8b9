-- Every starred case holds; and so do the cases without a star.
pub mod Starred
pub mod Others
