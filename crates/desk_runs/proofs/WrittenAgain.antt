-- A record of kind 3 is the one that its event is written as. Assumes nothing.
use Prim.Native.Nat.{ℕ, ◌+◌, ◌*◌}
use mathlib.Core.Path.{◌≡◌}
use mathlib.Core.List.{List}
use mathlib.Core.Bool.{true}
use lib.ListN.{length}
use lib.Dec.{eqb, leb}
use borrow.Author.Tests.{eqb-true}
use Rattle.base.specs.Lists.{Bytes}
use Rattle.base.proofs.TestLaws.{and_right}
use Rattle.wire.specs.Numbers.{le16}
use Rattle.wire.specs.Frame.{framed, kind_of}
use Rattle.fields.specs.Fields.{step_count}
use Rattle.codec.proofs.EncodeLaws.{event_again}
use Rattle.desk_days.specs.Story.{stepped_event_in, record_of}

-- a framed record of bytes and of kind 3, as long as its number of steps says, is the one that its event is written as
pub written_again : (s : List ℕ) → Bytes s → framed s ≡ true → kind_of s ≡ 3 → length s ≡ 14 + 16 * step_count s → record_of (stepped_event_in s) ≡ s
written_again s b whole = event_again s b (eqb-true _ _ (and_right (leb 4 (length s)) (eqb (le16 s 0) (length s)) whole))
