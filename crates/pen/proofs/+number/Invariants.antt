-- The last digit stands behind the digits of the tenth, which is smaller, and writing a number at a place writes that number. Assumes nothing.
use Rattle.std.proofs.Common.{◌+◌, ◌*◌}
use Rattle.pen.proofs.+number.Given as goal

abbrev pub decreases-Pen::put_number : goal.decreases-Pen::put_number
decreases-Pen::put_number l = 2 * l.n

abbrev pub decreases-put_number_at : goal.decreases-put_number_at
decreases-put_number_at l = 2 * l.n + 1
