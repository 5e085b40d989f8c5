-- The last evening of a week, computed: a pattern from 22:00 on, and free from 23:30 on, which is too narrow for its label.
use Rattle.std.proofs.Common.{◌≡◌, ℕ, List, [], ◌∷◌, ◌++◌, refl, codes}
use Rattle.tsb_field_diagram.specs.declared.week.WeekBand.{WeekBand}
use Rattle.tsb_field_diagram.specs.Week.{between_text, fill_of, middle_text, minute_text, of_each, week_band, week_label}

abbrev band : ℕ → ℕ → ℕ → WeekBand
band minute action pattern = record { minute = minute; action = action; pattern = pattern }

abbrev evening : List WeekBand
evening = band 9960 2 9 ∷ band 10050 1 0 ∷ []

its-bands : of_each week_band evening ≡ between_text (band 9960 2 9) 1320 1410 ++ (between_text (band 10050 1 0) 1410 1440 ++ [])
unfolding of_each
its-bands = refl

its-labels : of_each week_label evening ≡ middle_text (band 9960 2 9) 1320 1410 ++ []
unfolding of_each
its-labels = refl

-- the last minute ends with the day, and patterns 1 and 9 have one fill
its-end : minute_text 1440 ≡ codes "24:00"
its-end = refl

its-fill : fill_of 9 ≡ fill_of 1
its-fill = refl
