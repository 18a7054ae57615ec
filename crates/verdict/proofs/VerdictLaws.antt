-- What an event's verdict is, short or not, and what a refused record's is: callers cite these laws and not the definitions. Assumes nothing.
use Prim.Native.Nat.{ℕ}
use mathlib.Core.Path.{◌≡◌, refl}
use mathlib.Core.Bool.{true, false}
use Rattle.codes.specs.Codes.{row_of}
use Rattle.annex.specs.declared.Figures.{Figures}
use Rattle.annex.specs.Figures.{nothing}
use Rattle.annex.specs.Times.{is_short}
use Rattle.fields.specs.declared.Sheet.{Sheet}
use Rattle.fields.specs.declared.Head.{Head}
use Rattle.verdict.specs.Verdict.{refused_with, event_verdict}

module _ (sheet : Sheet) (h : Head) (end : ℕ) (f : Figures) where
  -- a short event is counted as an event and as short, with no figures
  pub event_short :
      is_short h.t0 end ≡ true →
      event_verdict sheet h end f ≡ record { answer = 0; sheet = sheet; number = h.number; events = 1; short = 1; row = row_of h.typ; figures = nothing }
  unfolding event_verdict
  event_short e = rw e

  -- any other is counted as an event, with its figures
  pub event_counted :
      is_short h.t0 end ≡ false →
      event_verdict sheet h end f ≡ record { answer = 0; sheet = sheet; number = h.number; events = 1; short = 0; row = row_of h.typ; figures = f }
  unfolding event_verdict
  event_counted e = rw e

-- a refused record leaves the sheet, marks no number and adds nothing
pub refused_adds_nothing :
    (sheet : Sheet) (n : ℕ) →
    let v = refused_with sheet n in
    (v.answer ≡ n) × (v.sheet ≡ sheet) × (v.number ≡ 0) × (v.events ≡ 0) × (v.short ≡ 0) × (v.row ≡ 0) × (v.figures ≡ nothing)
refused_adds_nothing sheet n = (refl, refl, refl, refl, refl, refl, refl)
