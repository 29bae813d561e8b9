-- The line that answers a line of hexadecimal.
pub mod Response
