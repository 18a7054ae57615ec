-- The table begins the file, and nothing is held yet. Assumes nothing.
use Rattle.std.proofs.lemmas.Result.{err_from_is_err_and}
use Rattle.element_pieces.specs.Inflow.{fresh}
use Rattle.element_pieces.proofs.begin.Goals as goal

pub returns-in_err-begun : goal.returns-in_err-begun
returns-in_err-begun c =
    let p = err_from_is_err_and c.from_residual.result c.from_residual.ensures.1 in
    let begun = c.in_err-begun.ensures in
    rw (p.1, p.2) (λ i. record { answer = (begun i).answer; flow = fresh (begun i).table })

pub returns : goal.returns
returns c = let begun = c.in_ok-begun.ensures in λ i. record { answer = (begun i).answer; flow = fresh (begun i).table }
