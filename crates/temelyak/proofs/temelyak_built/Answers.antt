-- Of 0 to 4 each is the list's; past them the list has nothing. Assumes nothing.
use mathlib.Core.Path.{sym}
use mathlib.Core.List.{[], ◌∷◌}
use lib.ListN.{get_or-eq_default}
use native.Mathlib.Omega.{arith}
use Rattle.c_words.specs.Words.{ledger_words}
use Rattle.c_words.specs.Header.{version}
use Rattle.temelyak.proofs.temelyak_built.Goals as goal

pub returns-in_default : goal.returns-in_default
returns-in_default c =
    sym (get_or-eq_default (version ∷ ledger_words ∷ 72 ∷ 8192 ∷ 32 ∷ []) 0 {n = c.args.which} (omega arith))
