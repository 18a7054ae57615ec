-- *Turned*: accepted files in any order, each with the records after its sheet in any order, are accepted and come to the same table. What is asked
-- of records and what they come to are sums over them and facts of each of them, which look at no order; each file still begins with its sheet, and
-- the mark is set by the last sheet, whichever it is. Assumes nothing.
use Prim.Native.Nat.{ℕ, suc, ◌+◌, ◌<◌}
use mathlib.Core.Path.{◌≡◌, refl, sym, ap, ◌∙◌, subst}
use mathlib.Core.List.{List, [], ◌∷◌, ◌++◌, map}
use mathlib.Core.Bool.{Bool, true}
use lib.ListN.{length}
use lib.Seq.{ext_get_or}
use lib.Dec.{eqb}
use native.Mathlib.Omega.{arith}
use borrow.Author.Tests.{not-false}
use Rattle.base.specs.Lists.{All}
use Rattle.base.proofs.ListLaws.{all_append, all_front, all_back}
use Rattle.base.proofs.SumLaws.{sum_append, sum_perm}
use Rattle.wire.specs.Book.{which_of}
use Rattle.wire.specs.Cut.{records_of, joined}
use Rattle.wire.specs.declared.Place.{Place}
use Rattle.wire.proofs.CutLaws.{Framed, cut_joined, joined_ends}
use Rattle.base.proofs.PermLaws.{perm_all}
use Rattle.element_row.specs.declared.Row.{Row}
use Rattle.element_table.specs.declared.Table.{Table}
use Rattle.element_row.specs.Row.{no_row}
use Rattle.element_table.specs.Table.{row_or, sound_table}
use Rattle.element_file.specs.Yearly.{after_files, AcceptedFiles}
use Rattle.element_laws.specs.Tally.{outages_of, minutes_of, stocks_of, stock_of, amount_of, total, tallied, Fitting, Each, Tells}
use Rattle.element_laws.specs.Turned.{after, Turned, none, both, swap, then, files_of, SameTable}
use Rattle.element_laws.proofs.FileLaws.{Opened, others, all_others, Held, Begins, behind_all, mark_after, files_accepted, files_tell, files_held}

-- what turned files keep: sums over the records after the sheets, what holds of each of those, the sheets, and how many files they are
turned_total : (f : List ℕ → ℕ) {fs gs : List (List (List ℕ))} → Turned fs gs → total f (all_others fs) ≡ total f (all_others gs)
turned_total f none = refl
turned_total f (both {fs = fs} {gs = gs} (after {ss = ss} {ts = ts} p) q) =
    omega (
      arith,
      sum_append f ss (all_others fs),
      sum_append f ts (all_others gs),
      sum_perm f p,
      turned_total f q,
    )
turned_total f (swap {f = a} {g = b} {fs = fs}) =
    omega (
      arith,
      sum_append f (others a) (others b ++ all_others fs),
      sum_append f (others b) (all_others fs),
      sum_append f (others b) (others a ++ all_others fs),
      sum_append f (others a) (all_others fs),
    )
turned_total f (then p q) = turned_total f p ∙ turned_total f q

turned_all : (P : List ℕ → Type 0) {fs gs : List (List (List ℕ))} → Turned fs gs → All P (all_others fs) → All P (all_others gs)
turned_all P none a = a
turned_all P (both {fs = fs} {gs = gs} (after {ss = ss} {ts = ts} p) q) a =
    all_append P ts (all_others gs) (perm_all P p (all_front P ss (all_others fs) a)) (turned_all P q (all_back P ss (all_others fs) a))
turned_all P (swap {f = f} {g = g} {fs = fs}) a =
    let rest : All P (others g ++ all_others fs) = all_back P (others f) (others g ++ all_others fs) a in
    all_append P (others g) (others f ++ all_others fs) (all_front P (others g) (all_others fs) rest)
    (all_append P (others f) (all_others fs) (all_front P (others f) (others g ++ all_others fs) a) (all_back P (others g) (all_others fs) rest))
turned_all P (then p q) a = turned_all P q (turned_all P p a)

turned_opened : {fs gs : List (List (List ℕ))} → Turned fs gs → All Opened fs → All Opened gs
turned_opened none a = a
turned_opened (both (after p) q) a = (a.0, turned_opened q a.1)
turned_opened swap a = (a.1.0, (a.0, a.1.1))
turned_opened (then p q) a = turned_opened q (turned_opened p a)

turned_length : {fs gs : List (List (List ℕ))} → Turned fs gs → length fs ≡ length gs
turned_length none = refl
turned_length (both s q) = ap suc (turned_length q)
turned_length swap = refl
turned_length (then p q) = turned_length p ∙ turned_length q

-- so what is asked of all the records stays
each_turned : (t : Table) {fs gs : List (List (List ℕ))} → Turned fs gs → Each t (all_others fs) → Each t (all_others gs)
each_turned t q each =
    record {
      fitting = turned_all Fitting q each.fitting;
      once = λ row l. omega (arith, each.once row l, turned_total (stocks_of row) q);
      room = λ row l. omega (arith, each.room row l, turned_total (outages_of row) q);
    }

-- a file made of a sheet and of records that fit is those records again, and begins with the sheet
module _ (g : List (List ℕ)) (opened : Opened g) (fit : All Fitting (others g)) where
  all_framed : All Framed g
  all_framed = go g opened fit
    where
      fitting_framed : (ss : List (List ℕ)) → All Fitting ss → All Framed ss
      fitting_framed [] a = tt
      fitting_framed (s ∷ ss) a = (not-false _ a.0.framed, fitting_framed ss a.1)

      go : (rs : List (List ℕ)) → Opened rs → All Fitting (others rs) → All Framed rs
      go [] o a = tt
      go (s ∷ ss) o a = (o.framed, fitting_framed ss a)

  made_records : records_of (joined g) ≡ g
  made_records = cut_joined g all_framed

  made_begins : Begins (joined g)
  made_begins =
      record {
        whole = ap (λ (q : Place). eqb (which_of q) 2) (joined_ends g all_framed);
        opened = subst Opened (sym made_records) opened;
      }

files_made : (gs : List (List (List ℕ))) → All Opened gs → All Fitting (all_others gs) → (map records_of (files_of gs) ≡ gs) × All Begins (files_of gs)
files_made [] o a = (refl, tt)
files_made (g ∷ gs) o a =
    let fit : All Fitting (others g) = all_front Fitting (others g) (all_others gs) a in
    let (same, begin) = files_made gs o.1 (all_back Fitting (others g) (all_others gs) a) in
    ((λ i. made_records g o.0 fit i ∷ same i), (made_begins g o.0 fit, begin))

begins_opened : (fs : List (List ℕ)) → All Begins fs → All Opened (map records_of fs)
begins_opened [] a = tt
begins_opened (f ∷ fs) a = (a.0.opened, begins_opened fs a.1)

-- as many files leave the same mark
same_mark : (seen : Bool) (fs : List (List ℕ)) (gs : List (List (List ℕ))) → length (map records_of fs) ≡ length gs → mark_after seen fs ≡ mark_after seen (files_of gs)
same_mark seen [] [] e = refl
same_mark seen [] (g ∷ gs) e = let no : ⊥ = omega (arith, e) in absurd no
same_mark seen (f ∷ fs) [] e = let no : ⊥ = omega (arith, e) in absurd no
same_mark seen (f ∷ fs) (g ∷ gs) e = refl

-- tables of 62 rows that agree in all are the same
same_table : (u v : Table) → Held u → Held v → u.period ≡ v.period → u.seen ≡ v.seen → ((row : ℕ) → row < 62 → row_or u.rows row ≡ row_or v.rows row) → u ≡ v
same_table u v a b p m rows =
    let all : u.rows ≡ v.rows =
    ext_get_or no_row u.rows v.rows (a.size ∙ sym b.size) (λ row l. rows row (omega (arith, l, a.size))) in
    λ i. record { period = p i; seen = m i; rows = all i }

module _
    (t : Table)
    (fs : List (List ℕ))
    (gs : List (List (List ℕ)))
    (held : Held t)
    (accepted : AcceptedFiles t fs)
    (q : Turned (map records_of fs) gs)
  where
    abbrev asked : All Begins fs × Each t (behind_all fs)
    asked = (files_accepted t held fs).0 accepted

    each_then : Each t (all_others gs)
    each_then = each_turned t q asked.1

    made : (map records_of (files_of gs) ≡ gs) × All Begins (files_of gs)
    made = files_made gs (turned_opened q (begins_opened fs asked.0)) each_then.fitting

    turned_accepted : AcceptedFiles t (files_of gs)
    turned_accepted = (files_accepted t held (files_of gs)).1 (made.1, subst (λ hs. Each t (all_others hs)) (sym made.0) each_then)

    sums : (f : List ℕ → ℕ) → total f (behind_all (files_of gs)) ≡ total f (behind_all fs)
    sums f = ap (λ hs. total f (all_others hs)) made.0 ∙ sym (turned_total f q)

    turned_rows : (row : ℕ) (r : Row) → tallied r row (behind_all (files_of gs)) ≡ tallied r row (behind_all fs)
    turned_rows row r =
        λ i.
        record {
          outages = r.outages + sums (outages_of row) i;
          minutes = r.minutes + sums (minutes_of row) i;
          stock = r.stock + sums (stock_of row) i;
          amount = r.amount + sums (amount_of row) i;
        }

    turned_table : after_files t (files_of gs) ≡ after_files t fs
    turned_table =
        let now : Tells _ _ _ = files_tell t held (files_of gs) turned_accepted in
        let before : Tells _ _ _ = files_tell t held fs accepted in
        same_table (after_files t (files_of gs)) (after_files t fs)
        (files_held t held (files_of gs) turned_accepted) (files_held t held fs accepted)
        (now.period ∙ sym before.period)
        (now.seen ∙ sym (same_mark t.seen fs gs (turned_length q)) ∙ sym before.seen)
        (λ row l. now.rows row l ∙ turned_rows row (row_or t.rows row) ∙ sym (before.rows row l))

    same_after : SameTable t fs (files_of gs)
    same_after = record { accepted = turned_accepted; table = turned_table }

-- the theorem: files that are accepted at a sound table of 62 rows are accepted too where they are turned, and come to the same table
pub turned :
    (t : Table) (fs : List (List ℕ)) (gs : List (List (List ℕ))) →
    sound_table t ≡ true →
    length t.rows ≡ 62 →
    AcceptedFiles t fs →
    Turned (map records_of fs) gs →
    SameTable t fs (files_of gs)
turned t fs gs sound size accepted q = same_after t fs gs (record { sound = sound; size = size }) accepted q
