use Rattle.refill.proofs.take_all.Given as goal

-- as many turns have passed as are counted
abbrev pub invariant-loop-turn : goal.invariant-loop-turn
invariant-loop-turn g l =
    (begun : g.row.P.Denot) → g.P.Pieces.came begun l.initial.pieces l.initial.buffer 0 → g.P.Pieces.came begun l.pieces l.buffer l._turn
