-- "An open slot is sound if its codes are listed, number not 0, T0 below 527,040, last time from T0 to 600,000, steps at most 64, each largest
-- count at most 10,000,000 (0 above its level), half minutes at most 2 x largest count x (last time - T0), last time T0 and largest counts 0
-- while no step is taken; open numbers differ. A free slot holds zeros only" (01, "Refusal numbers").
use Rattle.std.specs.Prelude.{ℕ, ◌*◌, ◌-◌, Bool, ◌&&◌, ◌||◌, not, leb, ltb, eqb}
use Rattle.codes.specs.Codes.{level_of}
use Rattle.codes.specs.Ranges.{latest, most_customers}
use Rattle.annex.specs.declared.Figures.{Figures}
use Rattle.annex.specs.Figures.{customers_at, halves_at}
use Rattle.fields.specs.Tests.{head_listed}
use Rattle.limits.specs.Limits.{figures_above}
use Rattle.slot.specs.declared.Slot.{Slot}

abbrev pub no_customers : Figures → Bool
no_customers f = eqb (customers_at f 0) 0 && eqb (customers_at f 1) 0 && eqb (customers_at f 2) 0

abbrev pub no_halves : Figures → Bool
no_halves f = eqb (halves_at f 0) 0 && eqb (halves_at f 1) 0 && eqb (halves_at f 2) 0

-- "A free slot holds zeros only"
unfoldable pub is_free : Slot → Bool
is_free s =
    eqb s.head.number 0 &&
    eqb s.head.typ 0 &&
    eqb s.head.voltage 0 &&
    eqb s.head.cause 0 &&
    eqb s.head.t0 0 &&
    eqb s.last 0 &&
    eqb s.steps 0 &&
    no_customers s.figures &&
    no_halves s.figures

-- "each largest count at most 10,000,000", "half minutes at most 2 x largest count x (last time - T0)"
abbrev pub level_within : ℕ → ℕ → ℕ → Bool
level_within customers halves minutes = leb customers most_customers && leb halves (2 * customers * minutes)

unfoldable pub open_sound : Slot → Bool
open_sound s =
    head_listed s.head &&
    ltb s.head.t0 527040 &&
    leb s.head.t0 s.last &&
    leb s.last latest &&
    leb s.steps 64 &&
    level_within (customers_at s.figures 0) (halves_at s.figures 0) (s.last - s.head.t0) &&
    level_within (customers_at s.figures 1) (halves_at s.figures 1) (s.last - s.head.t0) &&
    level_within (customers_at s.figures 2) (halves_at s.figures 2) (s.last - s.head.t0) &&
    not (figures_above (level_of s.head.voltage) s.figures) &&
    (ltb 0 s.steps || (eqb s.last s.head.t0 && no_customers s.figures))

-- anything that is not zeros only is to meet the open slot's list
unfoldable pub slot_sound : Slot → Bool
slot_sound s = is_free s || open_sound s
