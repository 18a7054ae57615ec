-- A byte shifted right by k is the byte divided by 2 ^ k, and its lowest bit is bit k: the definition of `marked`, at the byte that was read.
use Prim.Native.Nat.{◌%◌}
use mathlib.Core.Path.{ap}
use Rattle.used_numbers.specs.Marks.{bit_of, marked}
use Rattle.used_numbers.proofs.is_marked.Goals as goal

pub returns : goal.returns
unfolding marked
returns c = ap (λ byte. bit_of byte (c.args.number % 8)) c.byte_at-byte.ensures
