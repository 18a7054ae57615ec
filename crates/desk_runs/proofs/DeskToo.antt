-- The theorem *the desk too*: a book cut anywhere into runs, each of which is built up from an empty desk that is empty again at the run's end, gives
-- the same ledger and map; and every choice of an accepted book's stepped events can be built up so. Assumes nothing.
use Prim.Native.Nat.{ℕ, zero, suc, ◌+◌}
use mathlib.Core.Path.{◌≡◌, refl, ap, ◌∙◌, sym, subst}
use mathlib.Core.List.{List, [], ◌∷◌, ◌++◌, map}
use mathlib.Core.Bool.{Bool, true, false, ◌&&◌, cond}
use lib.ListN.{length, take, drop}
use lib.Dec.{eqb}
use native.Mathlib.Omega.{arith}
use borrow.Author.Tests.{eqb-true}
use Rattle.base.specs.Lists.{All, Bytes, Byte}
use Rattle.base.proofs.TestLaws.{Tested, holds, fails, test, and_right}
use Rattle.base.proofs.ListLaws.{all_take, all_drop}
use Rattle.wire.specs.Numbers.{le16}
use Rattle.wire.specs.Frame.{kind_of}
use Rattle.wire.specs.Cut.{whole_in_front, cut_in, records_of}
use Rattle.ledger.specs.declared.Ledger.{Ledger}
use Rattle.ledger.specs.Ledger.{empty_ledger}
use Rattle.ledger.specs.Take.{answer_of, ledger_after, map_after}
use Rattle.book.specs.Book as books
use Rattle.records.specs.Records.{is_broken}
use Rattle.book.specs.Book.{starting, take_record, take_all}
use Rattle.book.proofs.AppendLaws.{refused_before, before_all}
use Rattle.law_sums.specs.Accepted.{zero_map, Accepted}
use Rattle.desk_scan.specs.Desk.{slot_count}
use Rattle.desk_days.specs.Day.{State, Arrival, message, booked, bytes_of}
use Rattle.desk_days.specs.Story.{complete_records, empty_day, NothingOpen}
use Rattle.desk_days.specs.Late.{answers_to}
use Rattle.desk_days.proofs.StepByStep.{message_bytes, nothing_open}
use Rattle.desk_runs.specs.Messages.{messages_of}
use Rattle.desk_runs.specs.Runs.{Builds, Run, records_in, arrivals_in, InRuns, SameEnd, Leads, arrivals_of, day_of}
use Rattle.desk_runs.proofs.MessageLaws.{messages_bytes}
use Rattle.desk_runs.proofs.LeadLaws.{leads_none, leads_one, leads_then, all_taken}
use Rattle.desk_runs.proofs.BuiltUp.{stepped_few, stepped_passed, told_again, built_up}
use Rattle.desk_runs.proofs.TellLaws.{messages_tell}
use Rattle.desk_runs.proofs.JoinLaws.{builds_taken, builds_end, builds_then, builds_none}

-- ---- a day that tells a book

-- Records and messages in any order, from an empty desk: where the day leaves nothing open and its complete records are the book's, its ledger and
-- its map are the book's, and the desk is empty.
pub built_the_same : (book : List ℕ) (day : List Arrival) → Builds empty_ledger zero_map (records_of book) day → SameEnd book day
built_the_same book day k =
    let e = builds_end empty_ledger zero_map (records_of book) day k in
    record { ledger = ap (λ (x : State). x.ledger) e; map = ap (λ (x : State). x.map) e; desk = ap (λ (x : State). x.desk) e }

-- such a book, where it ends at a record's end, is an accepted one
pub built_accepted : (book : List ℕ) (day : List Arrival) → is_broken book ≡ false → Builds empty_ledger zero_map (records_of book) day → Accepted book
built_accepted book day whole k =
    record { whole = whole; all = ap (λ (x : books.BookState). x.refused) (builds_taken empty_ledger zero_map (records_of book) day k) }

-- ---- a book in runs

free : (l : Ledger) (m : List ℕ) → NothingOpen (empty_day l m).desk
free l m = nothing_open slot_count

-- run after run is one day, which builds up all their records
pub runs_build : (l : Ledger) (m : List ℕ) (rs : List Run) → InRuns l m rs → Builds l m (records_in rs) (arrivals_in rs)
runs_build l m [] k = builds_none l m (free l m)
runs_build l m (r ∷ rs) k =
    builds_then l m r.records r.arrivals k.0 (records_in rs) (arrivals_in rs)
    (runs_build (take_all (starting l m) r.records).ledger (take_all (starting l m) r.records).map rs k.1)

-- The book's records are those of the runs: the day of the runs ends as the book does.
pub the_desk_too : (book : List ℕ) (rs : List Run) → records_in rs ≡ records_of book → InRuns empty_ledger zero_map rs → SameEnd book (arrivals_in rs)
the_desk_too book rs e k =
    built_the_same book (arrivals_in rs) (subst (λ ss. Builds empty_ledger zero_map ss (arrivals_in rs)) e (runs_build empty_ledger zero_map rs k))

-- ---- one record is one run, whether it is entered or built up

module _ (l : Ledger) (m s : List ℕ) (b : Bytes s) (a : answer_of l m s ≡ 0) where
  abbrev next : State
  next = empty_day (ledger_after l m s) (map_after l m s)

  leads_entered : Leads (empty_day l m) (booked s ∷ []) next
  leads_entered = leads_one (empty_day l m) (booked s) next [] next a refl (leads_none next)

  -- arrivals that are all accepted and tell the record
  builds_one : (xs : List Arrival) → All (λ x. Bytes (bytes_of x)) xs → Leads (empty_day l m) xs next → complete_records xs ≡ s ∷ [] → Builds l m (s ∷ []) xs
  builds_one xs bytes k tells =
      record {
        in_bytes = bytes;
        nothing_open = subst (λ (x : State). NothingOpen x.desk) (sym k.ends) (free (ledger_after l m s) (map_after l m s));
        complete = ap complete_records (all_taken (empty_day l m) xs k.accepted) ∙ tells;
      }

  entered_builds : Builds l m (s ∷ []) (booked s ∷ [])
  entered_builds = builds_one (booked s ∷ []) (b, tt) leads_entered refl

  stepped_builds : kind_of s ≡ 3 → Builds l m (s ∷ []) (map message (messages_of s))
  stepped_builds k =
      let p = stepped_passed l m s b k a in
      builds_one (map message (messages_of s))
      (message_bytes (messages_of s) (messages_bytes _ p.in_bytes (stepped_few l m s b k a)))
      (built_up l m s b k a)
      (messages_tell _ p.in_bytes ∙ ap (λ r. r ∷ []) (told_again l m s b k a))

  -- whichever is chosen
  module _ (chosen : Bool) where
    either_way : (P : List Arrival → Type 0) → P (booked s ∷ []) → (kind_of s ≡ 3 → P (map message (messages_of s))) → P (arrivals_of chosen s)
    either_way P entered stepped = go (test (chosen && eqb (kind_of s) 3))
      where
        go : Tested (chosen && eqb (kind_of s) 3) → P (arrivals_of chosen s)
        go (holds e) =
            subst (λ t. P (cond t (map message (messages_of s)) (booked s ∷ []))) (sym e) (stepped (eqb-true _ _ (and_right chosen (eqb (kind_of s) 3) e)))
        go (fails e) = subst (λ t. P (cond t (map message (messages_of s)) (booked s ∷ []))) (sym e) entered

    -- its arrivals build up this record alone, are all accepted, and lead to the ledger and the map after it and an empty desk
    pub one_builds : Builds l m (s ∷ []) (arrivals_of chosen s)
    one_builds = either_way (Builds l m (s ∷ [])) entered_builds stepped_builds

    pub one_leads : Leads (empty_day l m) (arrivals_of chosen s) next
    one_leads = either_way (λ xs. Leads (empty_day l m) xs next) leads_entered (λ k. built_up l m s b k a)

-- ---- every record of an accepted book is such a run

-- where no record is refused the first is accepted, and of the others none is refused
module _ (l : Ledger) (m s : List ℕ) (ss : List (List ℕ)) (z : (take_all (starting l m) (s ∷ ss)).refused ≡ 0) where
  abbrev one : ℕ
  one = cond (eqb (answer_of l m s) 0) 0 1

  later : take_all (starting l m) (s ∷ ss) ≡ refused_before one (take_all (starting (ledger_after l m s) (map_after l m s)) ss)
  unfolding take_record
  later =
      let e : 0 + one ≡ one + 0 = omega arith in
      ap (λ (n : ℕ). take_all (record { ledger = ledger_after l m s; map = map_after l m s; refused = n }) ss) e ∙
      before_all one (starting (ledger_after l m s) (map_after l m s)) ss

  none_refused : one + (take_all (starting (ledger_after l m s) (map_after l m s)) ss).refused ≡ 0
  none_refused = sym (ap (λ (x : books.BookState). x.refused) later) ∙ z

  first_accepted : answer_of l m s ≡ 0
  first_accepted = go (eqb (answer_of l m s) 0) refl (omega (arith, none_refused))
    where
      go : (t : Bool) → eqb (answer_of l m s) 0 ≡ t → one ≡ 0 → answer_of l m s ≡ 0
      go true e _ = eqb-true _ _ e
      go false e n = let o : one ≡ 1 = rw e in absurd (omega (arith, n, o))

  rest_accepted : (take_all (starting (ledger_after l m s) (map_after l m s)) ss).refused ≡ 0
  rest_accepted = omega (arith, none_refused)

  -- what leads on to the others leads to the same end
  on :
      (xs ys : List Arrival) →
      Leads (empty_day l m) xs (empty_day (ledger_after l m s) (map_after l m s)) →
      Leads (empty_day (ledger_after l m s) (map_after l m s)) ys
      (empty_day (take_all (starting (ledger_after l m s) (map_after l m s)) ss).ledger (take_all (starting (ledger_after l m s) (map_after l m s)) ss).map) →
      Leads (empty_day l m) (xs ++ ys) (empty_day (take_all (starting l m) (s ∷ ss)).ledger (take_all (starting l m) (s ∷ ss)).map)
  on xs ys k j =
      subst (λ (x : books.BookState). Leads (empty_day l m) (xs ++ ys) (empty_day x.ledger x.map)) (sym later)
      (leads_then (empty_day l m) xs (empty_day (ledger_after l m s) (map_after l m s)) ys _ k j)

-- records that are all accepted, each chosen or not: the day builds them up,
pub chosen_build :
    (l : Ledger) (m : List ℕ) (choice : List Bool) (rs : List (List ℕ)) →
    All Bytes rs →
    (take_all (starting l m) rs).refused ≡ 0 →
    Builds l m rs (day_of choice rs)
unfolding take_record
chosen_build l m choice [] b z = builds_none l m (free l m)
chosen_build l m [] (s ∷ ss) b z =
    builds_then l m (s ∷ []) (booked s ∷ []) (entered_builds l m s b.0 (first_accepted l m s ss z)) ss (day_of [] ss)
    (chosen_build (ledger_after l m s) (map_after l m s) [] ss b.1 (rest_accepted l m s ss z))
chosen_build l m (chosen ∷ later) (s ∷ ss) b z =
    builds_then l m (s ∷ []) (arrivals_of chosen s) (one_builds l m s b.0 (first_accepted l m s ss z) chosen) ss (day_of later ss)
    (chosen_build (ledger_after l m s) (map_after l m s) later ss b.1 (rest_accepted l m s ss z))

-- and all of it is accepted
pub chosen_accepted :
    (l : Ledger) (m : List ℕ) (choice : List Bool) (rs : List (List ℕ)) →
    All Bytes rs →
    (take_all (starting l m) rs).refused ≡ 0 →
    Leads (empty_day l m) (day_of choice rs) (empty_day (take_all (starting l m) rs).ledger (take_all (starting l m) rs).map)
chosen_accepted l m choice [] b z = leads_none (empty_day l m)
chosen_accepted l m [] (s ∷ ss) b z =
    on l m s ss z (booked s ∷ []) (day_of [] ss) (leads_entered l m s b.0 (first_accepted l m s ss z))
    (chosen_accepted (ledger_after l m s) (map_after l m s) [] ss b.1 (rest_accepted l m s ss z))
chosen_accepted l m (chosen ∷ later) (s ∷ ss) b z =
    on l m s ss z (arrivals_of chosen s) (day_of later ss) (one_leads l m s b.0 (first_accepted l m s ss z) chosen)
    (chosen_accepted (ledger_after l m s) (map_after l m s) later ss b.1 (rest_accepted l m s ss z))

-- where none is chosen the records are entered as they stand
pub none_chosen : (rs : List (List ℕ)) → day_of [] rs ≡ map booked rs
none_chosen [] = refl
none_chosen (s ∷ ss) = ap (λ as'. booked s ∷ as') (none_chosen ss)

-- ---- a book in bytes

cut_bytes : (k : ℕ) (book : List ℕ) → Bytes book → All Bytes (cut_in k book)
unfolding cut_in
cut_bytes zero book b = tt
cut_bytes (suc k) book b = go (whole_in_front book) (cut_bytes k (drop (le16 book 0) book) (all_drop Byte (le16 book 0) book b))
  where
    go : (t : Bool) → All Bytes (cut_in k (drop (le16 book 0) book)) → All Bytes (cond t (take (le16 book 0) book ∷ cut_in k (drop (le16 book 0) book)) [])
    go true later = (all_take Byte (le16 book 0) book b, later)
    go false _ = tt

pub records_bytes : (book : List ℕ) → Bytes book → All Bytes (records_of book)
unfolding records_of
records_bytes book b = cut_bytes (length book) book b

-- An accepted book of bytes, and any choice of its stepped events: the day in which each chosen one is built up at the desk tells the book,
module _ (book : List ℕ) (b : Bytes book) (accepted : Accepted book) (choice : List Bool) where
  pub choice_builds : Builds empty_ledger zero_map (records_of book) (day_of choice (records_of book))
  choice_builds = chosen_build empty_ledger zero_map choice (records_of book) (records_bytes book b) accepted.all

  -- every record and every message of it is accepted,
  pub choice_accepted : All (λ n. n ≡ 0) (answers_to (empty_day empty_ledger zero_map) (day_of choice (records_of book)))
  choice_accepted = (chosen_accepted empty_ledger zero_map choice (records_of book) (records_bytes book b) accepted.all).accepted

  -- and it ends with the book's ledger and map, and with an empty desk.
  pub cut_into_runs : SameEnd book (day_of choice (records_of book))
  cut_into_runs = built_the_same book (day_of choice (records_of book)) choice_builds
