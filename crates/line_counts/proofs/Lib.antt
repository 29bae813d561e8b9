-- Laws of the parts of the line and of counts.
mod Texts
mod Sums
