-- Laws of putting texts one after the other, of numbers in decimal and of digits in places.
pub mod Queues
pub mod Decimals
pub mod Hexes
