-- For files whose every record is accepted: feeding them in any order, and the records after each sheet in any order, is accepted too and gives the
-- same table (K1).
use Rattle.std.specs.Prelude.{ℕ, ◌≡◌, List, [], ◌∷◌, map}
use Rattle.wire.specs.Cut.{joined}
use Rattle.base.specs.Perm.{Perm}
use Rattle.element_table.specs.declared.Table.{Table}
use Rattle.element_file.specs.Yearly.{after_files, AcceptedFiles}

-- a file's records: the sheet first as before, and the others in any order
pub data SameFile : List (List ℕ) → List (List ℕ) → Type 0 where
  after : {sheet : List ℕ} {ss ts : List (List ℕ)} → Perm ss ts → SameFile (sheet ∷ ss) (sheet ∷ ts)

-- files, each by its records, in any order, and each with its records after the sheet in any order
pub data Turned : List (List (List ℕ)) → List (List (List ℕ)) → Type 0 where
  none : Turned [] []
  both : {f g : List (List ℕ)} {fs gs : List (List (List ℕ))} → SameFile f g → Turned fs gs → Turned (f ∷ fs) (g ∷ gs)
  swap : {f g : List (List ℕ)} {fs : List (List (List ℕ))} → Turned (f ∷ g ∷ fs) (g ∷ f ∷ fs)
  then : {fs gs hs : List (List (List ℕ))} → Turned fs gs → Turned gs hs → Turned fs hs

-- the files that these records make
abbrev pub files_of : List (List (List ℕ)) → List (List ℕ)
files_of gs = map joined gs

pub record SameTable (t : Table) (fs gs : List (List ℕ)) : Type 0 where
  pub accepted : AcceptedFiles t gs
  pub table : after_files t gs ≡ after_files t fs
