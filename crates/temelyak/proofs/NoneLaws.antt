-- Each call behind refuses the ledger that stands for none with 1, and on any refusal leaves map and desk as they were: what `LentLaws` of `c_words` asks of
-- a call. Assumes nothing.
use Prim.Native.Nat.{ℕ}
use Rattle.std.specs.Prelude.{Err}
use mathlib.Core.Path.{◌≡◌, ap}
use mathlib.Core.List.{List, ◌∷◌}
use mathlib.Core.Bool.{◌||◌, not, cond}
use Rattle.base.specs.First.{first}
use Rattle.base.proofs.TestLaws.{Tested, holds, fails, test}
use Rattle.wire.specs.Frame.{kind_of}
use Rattle.record.specs.Rules.{unframed}
use Rattle.ledger.specs.declared.Ledger.{Ledger}
use Rattle.ledger.specs.Take.{unsound, answer_of, map_after}
use Rattle.ledger.proofs.TakeLaws.{answer_1, refused_hands_back}
use Rattle.book.specs.Book.{Read}
use Rattle.book.specs.Book.{read_of, map_read}
use Rattle.book.proofs.RunLaws.{read_nothing, read_through}
use Rattle.refusals.specs.declared.Refusal.TheVariants as refusal
use Rattle.index.specs.declared.Index.{Index}
use Rattle.index.specs.declared.Level.{Level}
use Rattle.index.specs.Index.{index_of}
use Rattle.index.proofs.IndexLaws.{unsound_refused}
use Rattle.codes.specs.declared.Set.{Set}
use Rattle.slot.specs.declared.Slot.{Slot}
use Rattle.desk_rules.specs.Rules.{look_at, rules_at}
use Rattle.desk_rules.specs.Plan.{look_answer}
use Rattle.desk_rules.specs.Serve.{message_answer, map_served, desk_served}
use Rattle.desk_rules.proofs.MessageLaws.{refused_same}
use Rattle.c_words.specs.Inside.{no_ledger}
use Rattle.c_words.proofs.LentLaws.{none_unsound, none_refused}

-- ---- each call refuses it

pub none_taken : (m s : List ℕ) → answer_of no_ledger m s ≡ 1
none_taken m s = answer_1 no_ledger m s (none_refused m)

pub none_read : (m b : List ℕ) → (read_of no_ledger m b).answer ≡ 1
none_read m b = ap (λ (r : Read). r.answer) (read_nothing no_ledger m b (none_refused m)).0

pub none_served : (m : List ℕ) (d : List Slot) (s : List ℕ) → message_answer no_ledger m d s ≡ 1
unfolding message_answer look_answer
none_served m d s = ap (λ t. cond (t || not (look_at d s).sound) 1 (first ((2, unframed s) ∷ rules_at (kind_of s) (look_at d s) no_ledger m s))) (none_refused m)

pub none_indexed : (index : Index) (level : Level) (set : Set) → index_of no_ledger index level set ≡ Err refusal.Unsound
none_indexed index level set = unsound_refused no_ledger index level set none_unsound

-- ---- what each leaves on a refusal

pub map_kept : (m s : List ℕ) (l : Ledger) → (answer_of l m s ≡ 0 → ⊥) → map_after l m s ≡ m
map_kept m s l z = (refused_hands_back l m s z).1

pub book_map_kept : (m b : List ℕ) (l : Ledger) → ((read_of l m b).answer ≡ 0 → ⊥) → map_read l m b ≡ m
book_map_kept m b l z = go (test (unsound l m))
  where
    go : Tested (unsound l m) → map_read l m b ≡ m
    go (holds u) = (read_nothing l m b u).1
    go (fails u) = absurd (z (ap (λ (r : Read). r.answer) (read_through l m b u).0))

pub served_map_kept : (m : List ℕ) (d : List Slot) (s : List ℕ) (l : Ledger) → (message_answer l m d s ≡ 0 → ⊥) → map_served l m d s ≡ m
served_map_kept m d s l z = (refused_same l m d s z).1

pub served_desk_kept : (m : List ℕ) (d : List Slot) (s : List ℕ) (l : Ledger) → (message_answer l m d s ≡ 0 → ⊥) → desk_served l m d s ≡ d
served_desk_kept m d s l z = (refused_same l m d s z).2
