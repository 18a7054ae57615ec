-- The table of worked rates comes out, as fractions, as decimals, and refused where a figure does not exist. By computing. Assumes nothing.
use mathlib.Core.Path.{refl}
use Rattle.ratio.specs.Lowest.{euclid, gcd_of, lowest_of}
use Rattle.decimal.specs.Decimal.{rounded, decimal_of, shown_of}
use Rattle.element_codes.specs.Elements.{codes, element_listed, row_of}
use Rattle.element_table.specs.Table.{sound_table}
use Rattle.element_rates.specs.Rates.{rate_of, mean_of, shown_rate, shown_mean}
use Rattle.element_rates.specs.Worked.{figures, decimals, divided, refused, Right}

-- every case comes out as it is said: the fractions, their decimals, what divides by 0, and which refusal is foremost
pub figures_right : Right figures
unfolding euclid gcd_of lowest_of codes element_listed row_of sound_table rate_of mean_of
figures_right = (refl, (refl, (refl, (refl, tt))))

pub decimals_right : Right decimals
unfolding euclid gcd_of lowest_of rounded decimal_of shown_of codes element_listed row_of sound_table rate_of mean_of shown_rate shown_mean
decimals_right = (refl, (refl, (refl, (refl, tt))))

pub divided_right : Right divided
unfolding euclid gcd_of lowest_of codes element_listed row_of sound_table rate_of mean_of
divided_right = (refl, (refl, (refl, (refl, (refl, (refl, tt))))))

pub refused_right : Right refused
unfolding euclid gcd_of lowest_of rounded decimal_of shown_of codes element_listed row_of sound_table rate_of mean_of shown_rate shown_mean
refused_right = (refl, (refl, (refl, (refl, (refl, (refl, (refl, (refl, tt))))))))
