-- The shape of tree bytes, as the code answers it.
pub mod Shaped
