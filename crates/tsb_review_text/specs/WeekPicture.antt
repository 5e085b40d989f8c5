-- What the schedule of a plan runs in a week, as a picture: a band for each row of the table.
use Rattle.std.specs.Prelude.{ℕ, ◌*◌, if◌then◌else◌, List, [], ◌∷◌, ◌++◌, codes, flat_map, map}
use Rattle.tsb_types.specs.Lists.{run_from}
use Rattle.tsb_plan.specs.Plan.{Plan}
use Rattle.tsb_plan.specs.Schedule.{selected_by}
use Rattle.tsb_plan.specs.Acting.{in_force}
use Rattle.tsb_field_diagram.specs.declared.week.WeekBand.{WeekBand}
use Rattle.tsb_field_diagram.specs.Week.{week_drawing}
use Rattle.tsb_review_text.specs.Week.{begins, day_text, moment_of}

-- the band of a moment, which begins with this minute of the week
abbrev pub band_at : Plan → ℕ → ℕ → WeekBand
band_at plan m minute = record { minute = minute; action = in_force plan m; pattern = selected_by plan (in_force plan m) }

-- what begins with a minute of the week, as a band, where a row does
abbrev pub band_of : Plan → ℕ → ℕ → List WeekBand
band_of plan first minute =
    if begins plan (moment_of first minute) minute then band_at plan (moment_of first minute) minute ∷ [] else []

-- the bands of a week
unfoldable pub bands_of : Plan → ℕ → List WeekBand
bands_of plan first = flat_map (band_of plan first) (run_from 0 10080)

-- the label of the day so many days after that of a time
abbrev pub label_of : ℕ → ℕ → List ℕ
label_of first day = day_text (moment_of first (1440 * day))

-- the title of the picture
abbrev pub title_of : ℕ → List ℕ
title_of first = codes "Patterns of the schedule, week from " ++ label_of first 0

-- the picture of a week
abbrev pub week_picture : Plan → ℕ → List ℕ
week_picture plan first = week_drawing (title_of first) (map (label_of first) (run_from 0 7)) (bands_of plan first)
