-- What is sound stays sound, whatever records are taken. Assumes nothing.
use Prim.Native.Nat.{ℕ}
use mathlib.Core.Path.{◌≡◌}
use mathlib.Core.List.{List}
use mathlib.Core.Bool.{true}
use Rattle.records.proofs.TakeLaws.{all_keep}
use Rattle.ledger.specs.Sound.{sound_ledger}
use Rattle.ledger.proofs.SoundLaws.{sound_stays_sound}
use Rattle.book.specs.Book.{BookState, take_record, take_all}

pub sound_record : (st : BookState) (s : List ℕ) → sound_ledger st.ledger ≡ true → sound_ledger (take_record st s).ledger ≡ true
unfolding take_record
sound_record st s e = sound_stays_sound st.ledger st.map s e

pub sound_run : (st : BookState) (ss : List (List ℕ)) → sound_ledger st.ledger ≡ true → sound_ledger (take_all st ss).ledger ≡ true
sound_run = all_keep take_record (λ (st : BookState). sound_ledger st.ledger ≡ true) sound_record
