-- "A record starts with its whole length in bytes (2), then its kind (2)" (01, "Bytes on the wire").
use Rattle.std.specs.Prelude.{ℕ, List, Bool, ◌&&◌, length, leb, eqb}
use Rattle.wire.specs.Numbers.{le16}

-- not "under 4 bytes, or stated length is not the slice's length" (01, refusal 2)
abbrev pub framed : List ℕ → Bool
framed s = leb 4 (length s) && eqb (le16 s 0) (length s)

abbrev pub kind_of : List ℕ → ℕ
kind_of s = le16 s 2
