-- 003's mean duration as an exact fraction.
use Rattle.std.specs.Prelude.{ℕ, ◌+◌, ◌*◌, ◌-◌}
use Rattle.ratio.specs.declared.Fraction.{Fraction}
use Rattle.ratio.specs.Fraction.{whole, plus, over}

-- 003, 4.3.1: t_jh = (n1 (T1 - T0) + (n1 + n2) (T2 - T1) / 2 + n2 (T3 - T2)) / n1
unfoldable pub tjh : (t0 t1 t2 t3 n1 n2 : ℕ) → Fraction
tjh t0 t1 t2 t3 n1 n2 =
    over (plus (plus (whole (n1 * (t1 - t0))) (over (whole ((n1 + n2) * (t2 - t1))) 2)) (whole (n2 * (t3 - t2)))) n1
