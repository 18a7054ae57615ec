-- Records as bytes by 01's table of kinds: each number in the bytes of its field, one after the other behind length and kind.
use Rattle.std.specs.Prelude.{ℕ, ◌%◌, ◌<◌, List, [], ◌∷◌, ◌++◌}
use Rattle.wire.specs.Numbers.{le2, le4}
use Rattle.fields.specs.Table.{Width, One, Two, Four, length_of}
use Rattle.codec.specs.Codec.{frame}

abbrev pub in_bytes : Width → ℕ → List ℕ
in_bytes One v = v % 256 ∷ []
in_bytes Two v = le2 v
in_bytes Four v = le4 v

abbrev pub written : List Width → List ℕ → List ℕ
written [] vs = []
written (w ∷ ws) [] = []
written (w ∷ ws) (v ∷ vs) = in_bytes w v ++ written ws vs

abbrev pub record_by : ℕ → List Width → List ℕ → List ℕ
record_by kind ws vs = frame (length_of ws) kind ++ written ws vs

-- a number for each field, which fits its bytes
abbrev pub room : Width → ℕ
room One = 256
room Two = 65536
room Four = 4294967296

abbrev pub InFields : List Width → List ℕ → Type 0
InFields [] [] = Unit {0}
InFields [] (v ∷ vs) = ⊥
InFields (w ∷ ws) [] = ⊥
InFields (w ∷ ws) (v ∷ vs) = (v < room w) × InFields ws vs
