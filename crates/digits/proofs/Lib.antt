-- Laws of writing into a room, piece by piece:
--   Room    wrote_none, wrote_then, wrote_as, wrote_next, wrote_from, wrote_byte: pieces behind pieces.
--           wrote_long: the room stays as long. wrote_filled: what fits comes first, and the rest of the room is unchanged.
--           wrote_outside, wrote_digits, hex_more, hex_all, digit_plain: bytes as digits
--   Over    hex_over: a byte's digits over another's
pub mod Room
pub mod Over
