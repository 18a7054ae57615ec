-- The last digit stands behind the digits of the tenth, which is smaller, so the measure is the number. Assumes nothing.
use Rattle.text.proofs.Text.+with_number.Given as goal

abbrev pub decreases-with_number : goal.decreases-with_number
decreases-with_number l = l.n
