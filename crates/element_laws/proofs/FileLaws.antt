-- A file is accepted exactly where it begins with a sheet that is right by itself and all that is asked of the other records holds: beginning a file
-- clears the mark, so that only a sheet can be first, and the sheet sets it. Files one after the other are accepted exactly where each begins so and
-- all that is asked holds of the other records of all of them, put one after the other. Assumes nothing.
use Prim.Native.Nat.{ℕ, ◌+◌}
use mathlib.Core.Path.{◌≡◌, refl, sym, ap, ◌∙◌, subst}
use mathlib.Core.Logic.{◌⊎◌, inl, inr, ◌↔◌}
use mathlib.Core.List.{List, [], ◌∷◌, ◌++◌, map}
use mathlib.Core.Bool.{Bool, true, false, cond, false≢true}
use lib.ListN.{length}
use lib.Dec.{eqb}
use native.Mathlib.Nat.{add-zero}
use Rattle.base.specs.Lists.{All}
use Rattle.wire.specs.Frame.{framed, kind_of}
use Rattle.wire.specs.Cut.{records_of}
use Rattle.records.proofs.TakeLaws.{first_accepted}
use Rattle.fields.specs.Fields.{sheet_in}
use Rattle.fields.specs.Tests.{in_range}
use Rattle.element_table.specs.declared.Table.{Table}
use Rattle.element_table.specs.Table.{row_or, sound_table, seen_as}
use Rattle.element_table.specs.Rules.{answer_of}
use Rattle.element_table.proofs.AnswerLaws.{accepted_kind}
use Rattle.element_table.proofs.ExactlyThen.{exactly_sheet, exactly_outage, exactly_stock}
use Rattle.element_table.proofs.RefusedLaws.{accepted_sheet}
use Rattle.element_table.proofs.SoundLaws.{marked_sound}
use Rattle.records.specs.Records.{one_if_refused, is_broken}
use Rattle.element_file.specs.Yearly.{FileState, starting, take_record, take_all, after_file, after_files, AcceptedFile, AcceptedFiles}
use Rattle.element_file.proofs.RunLaws.{refused_in, answer_in, refused_counted}
use Rattle.element_laws.specs.Tally.{Each, Tells}
use Rattle.element_laws.proofs.SumLaws.{same_row}
use Rattle.element_laws.proofs.TallyLaws.{Ready, Taken, none_each, records_accepted, records_taken, each_both, each_back, each_front, rows_both}

-- a sheet that is right by itself
pub record Opens (s : List ℕ) : Type 0 where
  pub framed : framed s ≡ true
  pub kind : kind_of s ≡ 1
  pub size : length s ≡ 18
  pub range : in_range (sheet_in s) ≡ true

-- records that begin with such a sheet, and the records after the first
abbrev pub Opened : List (List ℕ) → Type 0
Opened [] = ⊥
Opened (s ∷ ss) = Opens s

abbrev pub others : List (List ℕ) → List (List ℕ)
others [] = []
others (s ∷ ss) = ss

-- the records after the sheets of some files, each file by its records
abbrev pub all_others : List (List (List ℕ)) → List (List ℕ)
all_others [] = []
all_others (f ∷ fs) = others f ++ all_others fs

-- a table that takes files: sound, of 62 rows
pub record Held (t : Table) : Type 0 where
  pub sound : sound_table t ≡ true
  pub size : length t.rows ≡ 62

-- a table that takes outages and stocks takes files
pub ready_held : (t : Table) → Ready t → Held t
ready_held t ready = record { sound = ready.sound; size = ready.size }

-- with the mark set it takes outages and stocks
pub held_ready : (t : Table) → Held t → Ready (seen_as true t)
held_ready t held = record { sound = marked_sound t true ∙ held.sound; size = held.size; seen = refl }

-- what is asked of records does not look at the mark
each_marked : (t : Table) (seen : Bool) (ss : List (List ℕ)) → Each (seen_as seen t) ss → Each t ss
each_marked t seen ss each = record { fitting = each.fitting; once = each.once; room = each.room }

marked_each : (t : Table) (seen : Bool) (ss : List (List ℕ)) → Each t ss → Each (seen_as seen t) ss
marked_each t seen ss each = record { fitting = each.fitting; once = each.once; room = each.room }

-- the first record of a file
module _ (t : Table) (held : Held t) (s : List ℕ) where
  abbrev cleared : Table
  cleared = seen_as false t

  first_opens : answer_of cleared s ≡ 0 → Opens s
  first_opens a = go (accepted_kind cleared s a)
    where
      go : (kind_of s ≡ 1) ⊎ ((kind_of s ≡ 4) ⊎ (kind_of s ≡ 5)) → Opens s
      go (inl k) =
          let right = (exactly_sheet cleared s k).0 a in
          record { framed = right.framed; kind = k; size = right.size; range = right.range }
      go (inr (inl k)) = absurd (false≢true ((exactly_outage cleared s k).0 a).seen)
      go (inr (inr k)) = absurd (false≢true ((exactly_stock cleared s k).0 a).seen)

  opens_first : Opens s → answer_of cleared s ≡ 0
  opens_first o =
      (exactly_sheet cleared s o.kind).1
      (record { sound = marked_sound t false ∙ held.sound; framed = o.framed; size = o.size; first = refl; range = o.range })

  opens_taken : Opens s → take_record (starting cleared) s ≡ starting (seen_as true t)
  unfolding take_record
  opens_taken o =
      let a : answer_of cleared s ≡ 0 = opens_first o in
      let none : 0 + one_if_refused (answer_of cleared s) ≡ 0 = ap (λ n. 0 + cond (eqb n 0) 0 1) a in
      λ i. record { table = accepted_sheet cleared s o.kind a i; refused = none i }

-- the records of a file
module _ (t : Table) (held : Held t) where
  opened_taken : (rs : List (List ℕ)) → Opened rs → take_all (starting (seen_as false t)) rs ≡ take_all (starting (seen_as true t)) (others rs)
  opened_taken [] o = absurd o
  opened_taken (s ∷ ss) o = ap (λ (st : FileState). take_all st ss) (opens_taken t held s o)

  taken_opened : (rs : List (List ℕ)) → (rs ≡ [] → ⊥) → (take_all (starting (seen_as false t)) rs).refused ≡ 0 → Opened rs
  taken_opened [] some e = some refl
  taken_opened (s ∷ ss) some e = first_opens t held s (first_accepted take_record refused_in answer_in refused_counted (starting (seen_as false t)) s ss e)

-- a file that does not break off and begins with a sheet
pub record Begins (file : List ℕ) : Type 0 where
  pub whole : is_broken file ≡ false
  pub opened : Opened (records_of file)

module _ (t : Table) (held : Held t) (file : List ℕ) where
  abbrev behind : List (List ℕ)
  behind = others (records_of file)

  begins_taken : Begins file → after_file t file ≡ take_all (starting (seen_as true t)) behind
  begins_taken b = opened_taken t held (records_of file) b.opened

  -- a file is accepted exactly where it begins with a sheet and all that is asked of the others holds
  pub file_accepted : AcceptedFile t file ↔ (Begins file × Each t behind)
  file_accepted = (to, from)
    where
      to : AcceptedFile t file → Begins file × Each t behind
      to accepted =
          let begins : Begins file =
          record { whole = accepted.whole; opened = taken_opened t held (records_of file) accepted.some accepted.all } in (
            begins,
            each_marked t true behind
                ((records_accepted (seen_as true t) behind (held_ready t held)).0
                (ap (λ (st : FileState). st.refused) (sym (begins_taken begins)) ∙ accepted.all)),
          )

      from : Begins file × Each t behind → AcceptedFile t file
      from (begins, each) =
          record {
            some = λ none. subst Opened none begins.opened;
            whole = begins.whole;
            all =
                ap (λ (st : FileState). st.refused) (begins_taken begins) ∙
                (records_accepted (seen_as true t) behind (held_ready t held)).1 (marked_each t true behind each);
          }

  -- the table after it has all that they tell, with the mark set
  pub file_taken : Begins file → Each t behind → Taken (seen_as true t) behind 0 (after_file t file)
  file_taken begins each =
      subst (λ (st : FileState). Taken (seen_as true t) behind 0 st) (sym (begins_taken begins))
      (records_taken (seen_as true t) behind (held_ready t held) (marked_each t true behind each))

-- all the other records of some files
abbrev pub behind_all : List (List ℕ) → List (List ℕ)
behind_all fs = all_others (map records_of fs)

-- the mark after some files
abbrev pub mark_after : Bool → List (List ℕ) → Bool
mark_after seen [] = seen
mark_after seen (f ∷ fs) = true

-- files one after the other
module _ (t : Table) (held : Held t) (f : List ℕ) (fs : List (List ℕ)) (begins : Begins f) (each : Each t (others (records_of f))) where
  abbrev next : Table
  next = (after_file t f).table

  after_one : Taken (seen_as true t) (others (records_of f)) 0 (after_file t f)
  after_one = file_taken t held f begins each

  next_held : Held next
  next_held = ready_held next after_one.ready

  both_each : Each next (behind_all fs) → Each t (behind_all (f ∷ fs))
  both_each rest =
      each_marked t true (behind_all (f ∷ fs))
      (each_both (seen_as true t) next (others (records_of f)) (behind_all fs) after_one.tells (marked_each t true _ each) rest)

  rest_each : Each t (behind_all (f ∷ fs)) → Each next (behind_all fs)
  rest_each both =
      each_back (seen_as true t) next (others (records_of f)) (behind_all fs) after_one.tells (marked_each t true _ each)
      (marked_each t true (behind_all (f ∷ fs)) both)

accepted_files : (t : Table) (fs : List (List ℕ)) → Held t → AcceptedFiles t fs → All Begins fs × Each t (behind_all fs)
accepted_files t [] held accepted = (tt, none_each t held.sound)
accepted_files t (f ∷ fs) held (one, rest) =
    let (begins, each) = (file_accepted t held f).0 one in
    let (all, more) = accepted_files (after_file t f).table fs (next_held t held f fs begins each) rest in
    ((begins, all), both_each t held f fs begins each more)

files_accepted_by : (t : Table) (fs : List (List ℕ)) → Held t → All Begins fs → Each t (behind_all fs) → AcceptedFiles t fs
files_accepted_by t [] held all each = tt
files_accepted_by t (f ∷ fs) held (begins, all) both =
    let each : Each t (others (records_of f)) = each_front t (others (records_of f)) (behind_all fs) both in (
      (file_accepted t held f).1 (begins, each),
      files_accepted_by (after_file t f).table fs (next_held t held f fs begins each) all (rest_each t held f fs begins each both),
    )

-- what they come to
record Filed (t : Table) (fs : List (List ℕ)) : Type 0 where
  held : Held (after_files t fs)
  tells : Tells (seen_as (mark_after t.seen fs) t) (behind_all fs) (after_files t fs)

mark_stays : (seen : Bool) (fs : List (List ℕ)) → seen ≡ true → mark_after seen fs ≡ true
mark_stays seen [] e = e
mark_stays seen (f ∷ fs) e = refl

filed : (t : Table) (fs : List (List ℕ)) → Held t → All Begins fs → Each t (behind_all fs) → Filed t fs
filed t [] held all each =
    record {
      held = held;
      tells =
          record {
            period = refl;
            seen = refl;
            rows = λ row l. same_row (row_or t.rows row) _ (sym (add-zero _)) (sym (add-zero _)) (sym (add-zero _)) (sym (add-zero _));
          };
    }
filed t (f ∷ fs) held (begins, all) both =
    let each : Each t (others (records_of f)) = each_front t (others (records_of f)) (behind_all fs) both in
    let one = after_one t held f fs begins each in
    let rest : Filed (after_file t f).table fs =
    filed (after_file t f).table fs (next_held t held f fs begins each) all (rest_each t held f fs begins each both) in
    record {
      held = rest.held;
      tells =
          record {
            period = rest.tells.period ∙ one.tells.period;
            seen = rest.tells.seen ∙ mark_stays (after_file t f).table.seen fs one.ready.seen;
            rows =
                rows_both (seen_as true t) (after_file t f).table (others (records_of f)) (behind_all fs) one.tells
                (after_files t (f ∷ fs)) rest.tells.rows;
          };
    }

module _ (t : Table) (held : Held t) (fs : List (List ℕ)) where
  -- files are accepted one after the other exactly where each begins with a sheet and all that is asked of all the others holds
  pub files_accepted : AcceptedFiles t fs ↔ (All Begins fs × Each t (behind_all fs))
  files_accepted = (accepted_files t fs held, λ (all, each). files_accepted_by t fs held all each)

  -- and then the table after them has all that those tell, with the mark set by the last sheet
  pub files_tell : AcceptedFiles t fs → Tells (seen_as (mark_after t.seen fs) t) (behind_all fs) (after_files t fs)
  files_tell accepted = let (all, each) = accepted_files t fs held accepted in (filed t fs held all each).tells

  -- and it takes files again
  pub files_held : AcceptedFiles t fs → Held (after_files t fs)
  files_held accepted = let (all, each) = accepted_files t fs held accepted in (filed t fs held all each).held
