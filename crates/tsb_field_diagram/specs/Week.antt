-- What is in force in a week, as a picture: a row for each day, with a band for each that is in force.
use Rattle.std.specs.Prelude.{ℕ, ◌+◌, ◌-◌, ◌*◌, ◌/◌, ◌%◌, ◌==◌, nat_lt, if◌then◌else◌, List, [], ◌∷◌, ◌++◌, codes, flat_map}
use Rattle.tsb_types.specs.Lists.{run_from}
use Rattle.tsb_field_diagram.specs.declared.week.WeekBand.{WeekBand}
use Rattle.tsb_field_diagram.specs.Text.{attribute_text, named_text, number_text, two_digits}
use Rattle.tsb_field_diagram.specs.Lines.{frame_text, grid_text, place_of}
use Rattle.tsb_field_diagram.specs.Page.{opening_text, titles_text}

-- the classes of its shapes: free is grey, and patterns have eight fills that repeat
unfoldable pub week_style : List ℕ
week_style = codes "<style>.p0{fill:#ddd}.p1{fill:#7ad}.p2{fill:#ed8}.p3{fill:#fab}.p4{fill:#4b9}.p5{fill:#e86}.p6{fill:#9df}.p7{fill:#bc3}.p8{fill:#aa0}svg svg rect{stroke:#555;vector-effect:non-scaling-stroke}.a{stroke:#bbb}.k{text-anchor:middle;pointer-events:none}.l{text-anchor:end}.t{font-size:16px;font-weight:bold}</style>\n"

-- all before the days: the head of the picture, its title, the classes, and where the days begin
unfoldable pub week_head : List ℕ → List ℕ
week_head title =
    opening_text 292 ++ (titles_text title ++ (week_style ++ codes "<svg width=\"1160\" height=\"260\" y=\"32\">\n"))

-- ## Days and hours

-- the label of the day at this place, the first at place 0: a row is 32 units high
abbrev pub day_text : ℕ → List ℕ → List ℕ
day_text place day =
    attribute_text (codes "<text class=\"l\" x=\"132\" y=\"") (32 * place + 20) ++ (codes ">" ++ (day ++ codes "</text>\n"))

-- those of days; the first is at this place
unfoldable pub days_text : ℕ → List (List ℕ) → List ℕ
days_text place [] = []
days_text place (day ∷ days) = day_text place day ++ days_text (place + 1) days

-- how far from the left an hour is, from 0 to 24
abbrev pub hour_place : ℕ → ℕ
hour_place hour = place_of 86400 0 (3600 * hour)

-- the mark of an hour: a line through all rows, and its number below them
abbrev pub hour_text : ℕ → List ℕ
hour_text hour =
    grid_text 14 (hour_place hour)
    ++ (attribute_text (codes "<text class=\"k\" x=\"") (hour_place hour) ++ (codes " y=\"240\">" ++ (number_text hour ++ codes "</text>\n")))

-- the axis: hours 0 to 24
unfoldable pub hours_text : List ℕ
hours_text = flat_map hour_text (run_from 0 25)

-- ## A band

-- the minute of the week with which it ends, where these follow it: the next begins then, or the week is over
abbrev pub end_before : List WeekBand → ℕ
end_before [] = 10080
end_before (next ∷ rest) = next.minute

-- the minute of its day with which it begins
abbrev pub begin_in_day : WeekBand → ℕ
begin_in_day band = band.minute % 1440

-- a minute of the week, counted from the midnight of its day
abbrev pub end_in_day : WeekBand → ℕ → ℕ
end_in_day band end = end - (band.minute - begin_in_day band)

-- a minute of a day, as hour and minute
abbrev pub minute_text : ℕ → List ℕ
minute_text minute = two_digits (minute / 60) ++ (58 ∷ two_digits (minute % 60))

-- what is in force: a pattern, or 0 for free
abbrev pub pattern_text : ℕ → List ℕ
pattern_text pattern = if pattern == 0 then codes "free" else named_text (codes "pattern ") pattern

-- the action that selects it, 0 for none
abbrev pub action_text : ℕ → List ℕ
action_text action = if action == 0 then codes "no action" else named_text (codes "action ") action

-- what a viewer shows of a band between these minutes of its day
abbrev pub tip_text : WeekBand → ℕ → ℕ → List ℕ
tip_text band begin end =
    pattern_text band.pattern ++ (codes ", " ++ (minute_text begin ++ (codes " to " ++ (minute_text end ++ (codes ", " ++ action_text band.action)))))

-- the number of its fill: 0 for free, and 1 to 8 for patterns
abbrev pub fill_of : ℕ → ℕ
fill_of pattern = if pattern == 0 then 0 else (pattern - 1) % 8 + 1

-- its shape, up to its title: a minute is one unit wide
abbrev pub week_shape : WeekBand → ℕ → ℕ → List ℕ
week_shape band begin end =
    attribute_text (codes "<rect class=\"p") (fill_of band.pattern) ++ (attribute_text (codes " x=\"") begin
    ++ (attribute_text (codes " y=\"") (32 * (band.minute / 1440) + 4) ++ attribute_text (codes " width=\"") (end - begin)))

-- a band between these minutes of its day
abbrev pub between_text : WeekBand → ℕ → ℕ → List ℕ
between_text band begin end =
    week_shape band begin end ++ (codes " height=\"24\"><title>" ++ (tip_text band begin end ++ codes "</title></rect>\n"))

-- a band that ends with this minute of the week
abbrev pub week_band : WeekBand → ℕ → List ℕ
week_band band end = between_text band (begin_in_day band) (end_in_day band end)

-- ## Its label

-- how many minutes a band has at least that is wide enough for its label
abbrev pub least_minutes : ℕ → ℕ
least_minutes pattern = if pattern == 0 then 40 else 90

-- a label in the middle between these minutes of its day
abbrev pub middle_text : WeekBand → ℕ → ℕ → List ℕ
middle_text band begin end =
    attribute_text (codes "<text class=\"k\" x=\"") (place_of 86400 0 (30 * (begin + end)))
    ++ (attribute_text (codes " y=\"") (32 * (band.minute / 1440) + 20) ++ (codes ">" ++ (pattern_text band.pattern ++ codes "</text>\n")))

-- the label of a band between these minutes of its day: none where the band is too narrow
abbrev pub label_between : WeekBand → ℕ → ℕ → List ℕ
label_between band begin end = if nat_lt (end - begin) (least_minutes band.pattern) then [] else middle_text band begin end

-- the label of a band that ends with this minute of the week
abbrev pub week_label : WeekBand → ℕ → List ℕ
week_label band end = label_between band (begin_in_day band) (end_in_day band end)

-- ## A week

-- a text of each of these bands, by the minute of the week with which it ends
unfoldable pub of_each : (WeekBand → ℕ → List ℕ) → List WeekBand → List ℕ
of_each one [] = []
of_each one (band ∷ rest) = one band (end_before rest) ++ of_each one rest

-- the bands, in a frame in which a day is 1440 units wide
abbrev pub week_plot : List WeekBand → List ℕ
week_plot bands = frame_text 224 0 1440 ++ (of_each week_band bands ++ codes "</svg>\n")

-- the picture of a week with this title, these labels of days and these bands
unfoldable pub week_drawing : List ℕ → List (List ℕ) → List WeekBand → List ℕ
week_drawing title days bands =
    week_head title ++ (days_text 0 days ++ (hours_text ++ (week_plot bands ++ (of_each week_label bands ++ codes "</svg>\n</svg>\n"))))
