-- The code's step is the step over lists: a feed that holds a reading in pieces holds the reading with one piece more afterwards, so that `pieces_whole`
-- speaks of the code; and what is held, where a record can still follow, leaves room in a buffer of 65,535 bytes or more. Assumes nothing.
use mathlib.Core.Path.{◌≡◌, sym, ap, ◌∙◌}
use Prim.Native.Nat.{ℕ, ◌+◌, ◌<◌, ◌≤◌}
use native.Mathlib.Omega.{arith}
use native.Mathlib.Nat.{add-zero}
use mathlib.Core.Bool.{Bool, true, false, not, cond}
use mathlib.Core.List.{List}
use lib.Dec.{eqb}
use lib.ListN.{length, get_or, take, drop}
use borrow.Author.Tests.{eq-eqb, not-false}
use Rattle.base.proofs.TestLaws.{or_right}
use Rattle.wire.specs.Cut.{records_of, joined}
use Rattle.records.specs.Records.{is_broken}
use Rattle.records.specs.Pieces.{most_refused, Pieces, beginning, fed, fed_all}
use Rattle.records.proofs.AnswerLaws.{end_goes_on}
use Rattle.records.proofs.HeldLaws.{Holding, held_on_lem, held_whole, held_room, stays_fit}
use Rattle.used_numbers.specs.Marks.{map_size}
use Rattle.ledger.specs.declared.Ledger.{Ledger}
use Rattle.ledger.specs.Sound.{sound_ledger}
use Rattle.ledger.specs.Take.{unsound}
use Rattle.ledger.proofs.TakeLaws.{map_size_kept}
use Rattle.book.specs.Book.{Read, BookState, starting, take_record, after_book, read_of}
use Rattle.book.proofs.RunLaws.{read_through, refused_below}
use Rattle.book.proofs.SoundLaws.{sound_record, sound_run}
use Rattle.book_pieces.specs.declared.Feed.{Feed}
use Rattle.book_pieces.specs.Feed.{Fed, reading_of, fed_answer, finish_answer, buffer_fed, map_fed, fed_of, finished_of}
use Rattle.book_pieces.proofs.FeedLaws.{fed_on, buffer_long, ledger_sound, map_long}

module _ (f : Feed) (m b : List ℕ) (filled : ℕ) (u : fed_answer f m b filled ≡ 0) where
  -- the feed after a call holds the reading with one piece more
  pub feed_holds :
      (p : Pieces BookState) →
      Holding take_record (reading_of f m) b p →
      f.held ≤ filled →
      Holding take_record (reading_of (fed_of f m b filled).feed (map_fed f m b filled)) (buffer_fed f m b filled)
      (fed take_record p (drop f.held (take filled b)))
  feed_holds p h within =
      let e = fed_on f m b filled u in
      coe 0 1 (i. Holding take_record (reading_of (e.0 i).feed (e.1 i)) (e.2 i) (fed take_record p (drop f.held (take filled b))))
      (held_on_lem take_record (reading_of f m) b filled p h within (buffer_long f m b filled u))

  -- where a record can still follow, fewer than 65,535 bytes are held
  pub feed_has_room : ((i : ℕ) → get_or b i 0 < 256) → (fed_of f m b filled).feed.dead ≡ false → (fed_of f m b filled).feed.held < 65535
  feed_has_room bytes after =
      let e = (fed_on f m b filled u).0 in
      let room = held_room take_record (reading_of f m) b filled (buffer_long f m b filled u) bytes (ap (λ (r : Fed). r.feed.dead) e ∙ after) in
      omega (arith, room, ap (λ (r : Fed). r.feed.held) e)

  -- after a call that was answered 0 the ledger is sound and the map and the buffer have their sizes: a next one is refused only for its count of refused
  -- records (252) or for a `filled` past the buffer (253), and the end only for the count
  abbrev Fit : Fed → List ℕ → List ℕ → Type 0
  Fit r m₁ b₁ = (sound_ledger r.feed.ledger ≡ true) × (length m₁ ≡ map_size) × (length b₁ ≡ length b)

  pub feed_stays_fit : Fit (fed_of f m b filled) (map_fed f m b filled) (buffer_fed f m b filled)
  unfolding take_record
  feed_stays_fit =
      let e = fed_on f m b filled u in
      let kept = stays_fit take_record Sound sound_too (reading_of f m) b filled (buffer_long f m b filled u) (ledger_sound f m b filled u, map_long f m b filled u) in
      coe 0 1 (i. Fit (e.0 i) (e.1 i) (e.2 i)) (kept.0.0, kept.0.1, kept.1)
    where
      Sound : BookState → Type 0
      Sound st = (sound_ledger st.ledger ≡ true) × (length st.map ≡ map_size)

      sound_too : (st : BookState) (s : List ℕ) → Sound st → Sound (take_record st s)
      sound_too st s (e, z) = (sound_record st s e, map_size_kept st.ledger st.map s ∙ z)

-- the outcome after all pieces is that of reading the whole book
module _
    (l : Ledger)
    (m : List ℕ)
    (ps : List (List ℕ))
    (f : Feed)
    (m₁ b : List ℕ)
    (h : Holding take_record (reading_of f m₁) b (fed_all take_record (beginning (starting l m)) ps))
  where
    state_whole : (reading_of f m₁).state ≡ after_book l m (joined ps)
    state_whole = (held_whole take_record (starting l m) ps (reading_of f m₁) b h).0

    abbrev Outcome : BookState → Bool → Read
    Outcome st broken = record { answer = 0; ledger = st.ledger; refused = st.refused + cond broken 1 0; broken = broken }

    finish_either : (t : Bool) → eqb f.held 0 ≡ not t → finish_answer f ≡ 0 → finished_of f ≡ Outcome (reading_of f m₁).state t
    unfolding finished_of
    finish_either true e a = let z = eq-eqb (finish_answer f) 0 a in rw (z, e)
    finish_either false e a =
        let z = eq-eqb (finish_answer f) 0 a in
        rw (z, e) (λ i. record { answer = 0; ledger = f.ledger; refused = sym (add-zero f.refused) i; broken = false })

    -- the ledger of a book that was taken into a sound one is sound
    ledger_whole : unsound l m ≡ false → sound_ledger f.ledger ≡ true
    ledger_whole u =
        ap (λ (st : BookState). sound_ledger st.ledger) state_whole ∙
        sound_run (starting l m) (records_of (joined ps)) (not-false (sound_ledger l) (or_right (not (eqb (length m) map_size)) (not (sound_ledger l)) u))

    -- begun from a sound ledger and a map of its size, and with at most 2^62 refused, the feed ends as the reading of the whole book does
    pub finish_whole : f.refused ≤ most_refused → unsound l m ≡ false → finished_of f ≡ read_of l m (joined ps)
    finish_whole few u =
        finish_either (is_broken (joined ps)) (held_whole take_record (starting l m) ps (reading_of f m₁) b h).1
        (end_goes_on (sound_ledger f.ledger) f.refused (ledger_whole u) few) ∙
        ap (λ (st : BookState). Outcome st (is_broken (joined ps))) state_whole ∙
        sym (read_through l m (joined ps) u).0

    -- a book of at most 2^62 bytes has no more records than that
    pub count_fits : length (joined ps) ≤ most_refused → f.refused ≤ most_refused
    count_fits short =
        let same : f.refused ≡ (after_book l m (joined ps)).refused = ap (λ (st : BookState). st.refused) state_whole in
        omega (arith, refused_below l m (joined ps))

    -- and the map is the one after the whole book
    pub map_whole : m₁ ≡ (after_book l m (joined ps)).map
    map_whole = ap (λ (st : BookState). st.map) state_whole

-- with an unsound ledger there is no outcome: 1, as where a piece is taken
pub none_finished : (f : Feed) → sound_ledger f.ledger ≡ false → finished_of f ≡ record { answer = 1; ledger = f.ledger; refused = f.refused; broken = false }
unfolding finished_of
none_finished f s = rw s
