-- What the user asked for, sentence by sentence. A ledger, a map, a desk and bytes are any that can be lent; an accepted book is one that, taken from an empty
-- ledger and an all-zero map, ends with a record and has every record accepted (law_sums, Accepted).
use Rattle.std.specs.Prelude.{ℕ, ◌<◌, ◌≡◌, ◌↔◌, List, [], ◌∷◌, map, Bool, true, false, Ok}
use Rattle.base.specs.First.{Foremost}
use Rattle.base.specs.Lists.{All, Bytes, listed}
use Rattle.wire.specs.Cut.{records_of, joined}
use Rattle.ratio.specs.declared.Fraction.{Fraction}
use Rattle.codes.specs.declared.Set.{Set}
use Rattle.codes.specs.Codes.{levels}
use Rattle.fields.specs.Fields.{steps_in}
use Rattle.ledger.specs.declared.Ledger.{Ledger}
use Rattle.ledger.specs.Ledger.{Shaped}
use Rattle.ledger.specs.Take.{unsound, take_rules, answer_of, ledger_after, map_after}
use Rattle.book.specs.Book.{BookState, starting, take_all, read_of, map_read}
use Rattle.slot.specs.declared.Slot.{Slot}
use Rattle.desk_rules.specs.Rules.{look_at, rules}
use Rattle.desk_rules.specs.Serve.{message_answer, ledger_served, map_served, desk_served}
use Rattle.index.specs.declared.Index.{Index}
use Rattle.index.specs.declared.Index.TheVariants.{Saifi, Caidi}
use Rattle.index.specs.declared.Level.{Level}
use Rattle.index.specs.Index.{index_of}
use Rattle.index.specs.Answered.{Way, Exact}
use Rattle.law_sums.specs.Accepted.{Accepted}
use Rattle.law_sums.specs.Theorem.{Adds, IsSum}
use Rattle.law_people.specs.People.{Agrees, Counted, AddsByCustomer}
use Rattle.law_order.specs.Reorder.{Reordered, SameEnd}
use Rattle.law_join.specs.Join.{SameSheet, SharesNone, JoinAdds}
use Rattle.law_adding.specs.Adding.{AddsUp, Multiplies}
use Rattle.law_index.specs.Theorem.{EndToEnd}
use Rattle.desk_days.specs.Day.{message, after_all, accepted_of}
use Rattle.desk_days.specs.Story.{empty_day, closed_records, NothingOpen}
use Rattle.desk_sums.specs.Sums.{end_of, DeskAdds}
use Rattle.temelyak.specs.Refused.{LentSame}

pub record Demand1 : Type 0 where
  -- "Bytes of every sort, and every ledger, desk or map handed in, get either an answer or a numbered refusal, and the call ends." The answer is n exactly
  -- where n's rule applies and none before it does; 0 is given exactly where none applies
  pub record_answered : (l : Ledger) (m s : List ℕ) (n : ℕ) → (answer_of l m s ≡ n) ↔ Foremost n (take_rules l m s)
  pub message_answered : (l : Ledger) (m : List ℕ) (d : List Slot) (s : List ℕ) (n : ℕ) → (message_answer l m d s ≡ n) ↔ Foremost n (rules (look_at d s) l m s)
  pub record_numbered :
      (l : Ledger) (m s : List ℕ) → listed (answer_of l m s) (0 ∷ 1 ∷ 2 ∷ 3 ∷ 4 ∷ 5 ∷ 6 ∷ 7 ∷ 10 ∷ 11 ∷ 12 ∷ 13 ∷ 14 ∷ 15 ∷ []) ≡ true
  pub message_numbered :
      (l : Ledger) (m : List ℕ) (d : List Slot) (s : List ℕ) →
      listed (message_answer l m d s) (0 ∷ 1 ∷ 2 ∷ 3 ∷ 4 ∷ 5 ∷ 7 ∷ 8 ∷ 9 ∷ 10 ∷ 11 ∷ 12 ∷ 14 ∷ 15 ∷ 16 ∷ []) ≡ true
  pub index_answered : (l : Ledger) (index : Index) (level : Level) (set : Set) → Way l index level set (index_of l index level set)
  -- "A refused record or message hands back the ledger it was given, and no refusal changes the desk, the map or any other lent memory."
  pub record_refused : (l : Ledger) (m s : List ℕ) → (answer_of l m s ≡ 0 → ⊥) → (ledger_after l m s ≡ l) × (map_after l m s ≡ m)
  pub message_refused :
      (l : Ledger) (m : List ℕ) (d : List Slot) (s : List ℕ) →
      (message_answer l m d s ≡ 0 → ⊥) →
      (ledger_served l m d s ≡ l) × (map_served l m d s ≡ m) × (desk_served l m d s ≡ d)
  pub book_refused :
      (l : Ledger) (m book : List ℕ) →
      unsound l m ≡ true →
      (read_of l m book ≡ record { answer = 1; ledger = l; refused = 0; broken = false }) × (map_read l m book ≡ m)
  pub call_refused : LentSame

pub record Demand2 : Type 0 where
  -- "Each accepted event adds exactly what the annex's formulas say," of any records from any ledger and map on, refused ones passed over, and of a book
  pub events_add : (st : BookState) (ss : List (List ℕ)) → Shaped st.ledger → Adds st ss
  pub book_adds : (book : List ℕ) → Accepted book → IsSum book
  -- "and each index is that formula's exact fraction in lowest terms."
  pub index_exact :
      (l : Ledger) (index : Index) (level : Level) (set : Set) (f : Fraction) → index_of l index level set ≡ Ok f → Exact l index level set f
  pub book_index : (book : List ℕ) → Accepted book → (index : Index) (level : Level) (set : Set) → EndToEnd book index level set
  -- "Outages built up step by step at a desk that began empty count, once none is open, exactly as complete records taken in the order of closing."
  pub step_by_step :
      (l : Ledger) (m : List ℕ) (rs : List (List ℕ)) →
      All Bytes rs →
      NothingOpen (after_all (empty_day l m) (map message rs)).desk →
      take_all (starting l m) (closed_records (accepted_of (empty_day l m) (map message rs))) ≡
      record { ledger = (after_all (empty_day l m) (map message rs)).ledger; map = (after_all (empty_day l m) (map message rs)).map; refused = 0 }

pub record Demand3 : Type 0 where
  -- "For a counted stepped event, and any list saying in which steps each customer of a level was off that agrees with the recorded counts, our
  -- customer-minutes equal those added customer by customer."
  pub by_customer :
      (l : Ledger) (m s : List ℕ) →
      Shaped l →
      Counted l m s →
      (h : ℕ) →
      h < levels →
      (customers : List (List Bool)) →
      Agrees h (steps_in s) customers →
      AddsByCustomer l m s h customers
  pub desk_by_customer :
      (l : Ledger) (m : List ℕ) (rs : List (List ℕ)) → Shaped l → All Bytes rs → NothingOpen (end_of l m rs).desk → DeskAdds l m rs
  -- "Reordering the events of an accepted book changes no total."
  pub reordering : (book : List ℕ) (rs : List (List ℕ)) → Accepted book → Reordered (records_of book) rs → SameEnd book (joined rs)
  -- "Two accepted books under one year sheet that share no event number join into an accepted book whose totals are the sums."
  pub joining :
      (book₁ book₂ : List ℕ) →
      Bytes book₁ →
      Bytes book₂ →
      Accepted book₁ →
      Accepted book₂ →
      SameSheet book₁ book₂ →
      SharesNone book₁ book₂ →
      JoinAdds book₁ book₂
  -- "Levels and event types add up to the network,"
  pub adding_up : (book : List ℕ) → Accepted book → AddsUp book
  -- "and CAIDI times SAIFI is SAIDI wherever SAIFI and CAIDI both exist."
  pub multiplied :
      (l : Ledger) (level : Level) (set : Set) (saifi caidi : Fraction) →
      index_of l Saifi level set ≡ Ok saifi →
      index_of l Caidi level set ≡ Ok caidi →
      Multiplies l level set saifi caidi
