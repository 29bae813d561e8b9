-- Laws of the parts of lines.
mod Texts
