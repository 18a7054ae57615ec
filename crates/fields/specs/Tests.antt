-- What 01 tests of a sheet and of a head, each as its sentence has it ("Bytes on the wire", "Codes", "Refusal numbers").
use Rattle.std.specs.Prelude.{Bool, ◌&&◌, not, get_or, leb, ltb, eqb}
use Rattle.codes.specs.Codes.{row_of, level_of, cause_listed, rows, levels}
use Rattle.codes.specs.Ranges.{most_customers}
use Rattle.fields.specs.declared.Sheet.{Sheet}
use Rattle.fields.specs.declared.Head.{Head}

-- "Years run 2000 to 2099"; "level totals are 0 to 10,000,000"
abbrev pub in_range : Sheet → Bool
in_range sheet =
    leb 2000 sheet.year &&
    leb sheet.year 2099 &&
    leb (get_or sheet.totals 0 0) most_customers &&
    leb (get_or sheet.totals 1 0) most_customers &&
    leb (get_or sheet.totals 2 0) most_customers

-- not "number 0, or a type, voltage or cause not listed"
abbrev pub head_listed : Head → Bool
head_listed h = not (eqb h.number 0) && ltb (row_of h.typ) rows && ltb (level_of h.voltage) levels && cause_listed h.cause
