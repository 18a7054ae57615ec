-- An entry written as a line of text (docs/TEXT.md).
use Rattle.std.specs.Prelude.{ℕ, ◌+◌, List, [], ◌∷◌, ◌++◌, cond, eqb, leb, take}
use Rattle.annex.specs.Times.{minutes_in}
use Rattle.calendar.specs.declared.Date.{Date}
use Rattle.calendar.specs.Calendar.{date_of}
use Rattle.text.specs.Text.{number_text, two_text}
use Rattle.pen.specs.Pen.{hex_text}
use Rattle.text_items.specs.Entry.{Entry}
use Rattle.text_items.specs.Shape.{item_of, bar_before}
use Rattle.text_parse.specs.Entry.{word_text}

-- MM-DD hh:mm
abbrev pub date_parts : Date → List ℕ
date_parts d = two_text d.month ++ (45 ∷ []) ++ two_text d.day ++ (32 ∷ []) ++ two_text d.hour ++ (58 ∷ []) ++ two_text d.minute

unfoldable pub date_text : ℕ → ℕ → List ℕ
date_text year t = date_parts (date_of year t)

-- times as minutes, or as MM-DD hh:mm where they lie within the sheet's year
unfoldable pub time_text : ℕ → ℕ → List ℕ
time_text year t = cond (eqb year 0) (number_text t) (cond (leb (minutes_in year) t) (number_text t) (date_text year t))

unfoldable pub item_text : ℕ → ℕ → ℕ → List ℕ
item_text item year v = cond (eqb item 4) (time_text year v) (cond (eqb item 5) (hex_text v) (number_text v))

-- a space, or a bar between two
unfoldable pub gap_text : ℕ → ℕ → List ℕ
gap_text kind k = cond (bar_before kind k) (32 ∷ 124 ∷ 32 ∷ []) (32 ∷ [])

-- the items from the k-th on
abbrev pub items_text : ℕ → ℕ → ℕ → List ℕ → List ℕ
items_text kind year k [] = []
items_text kind year k (v ∷ vs) = gap_text kind k ++ (item_text (item_of kind k) year v ++ items_text kind year (k + 1) vs)

abbrev pub entry_items : Entry → ℕ → List ℕ
entry_items e year = items_text e.kind year 0 (take e.count e.values)

abbrev pub line_text : ℕ → ℕ → List ℕ → List ℕ
line_text kind year vs = word_text kind ++ items_text kind year 0 vs

abbrev pub line_of : Entry → ℕ → List ℕ
line_of e year = word_text e.kind ++ entry_items e year
