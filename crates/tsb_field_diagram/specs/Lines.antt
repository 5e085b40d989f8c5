-- The lines of a diagram: so many seconds each, one below the other.
use Rattle.std.specs.Prelude.{ℕ, zero, suc, ◌+◌, ◌-◌, ◌*◌, ◌/◌, ◌%◌, ◌==◌, min, nat_le, if◌then◌else◌, List, [], ◌∷◌, ◌++◌, codes, length, Option}
use Rattle.tsb_types.specs.Lists.{or_number}
use Rattle.tsb_field_display.specs.declared.shown.Shown.{Shown}
use Rattle.tsb_log_text.specs.declared.log.LogRow.{LogRow}
use Rattle.tsb_field_diagram.specs.declared.band.Band.{Band}
use Rattle.tsb_field_diagram.specs.declared.band.BandKind.{BandKind}
use Rattle.tsb_field_diagram.specs.declared.band.BandKind.TheVariants as kinds
use Rattle.tsb_field_diagram.specs.declared.line.Scale.{Scale}
use Rattle.tsb_field_diagram.specs.Text.{attribute_text, clock_text, named_text, number_text}
use Rattle.tsb_field_diagram.specs.Bands.{mark_in_change, mark_in_row, tick_of_change, tick_of_row}
use Rattle.tsb_field_diagram.specs.Bars.{bars_of, bars_text, from_tick, before_tick}

-- ## Which ticks a line has

-- the first tick of line k, the first being line 0
abbrev pub first_tick : ℕ → ℕ → ℕ
first_tick seconds k = k * (10 * seconds) + 1

-- the tick after its last one: the last line ends with the last tick
abbrev pub end_tick : ℕ → ℕ → ℕ → ℕ
end_tick seconds last k = min (first_tick seconds k + 10 * seconds) (last + 1)

-- how many lines there are
abbrev pub line_count : ℕ → ℕ → ℕ
line_count seconds last = if last == 0 then 0 else (last - 1) / (10 * seconds) + 1

-- how high the bands are
abbrev pub height_of : ℕ → ℕ
height_of bands = 16 * bands

-- ## Labels

-- what a band is called
abbrev pub name_of : BandKind → ℕ → List ℕ
name_of kinds.Preempt n = named_text (codes "preempt ") n
name_of kinds.Flash n = codes "flash"
name_of kinds.Vehicle n = number_text n
name_of kinds.Pedestrian n = number_text n ++ codes " ped"
name_of kinds.Overlap n = named_text (codes "overlap ") n
name_of kinds.VehicleInput n = named_text (codes "detector ") n
name_of kinds.PedestrianInput n = named_text (codes "ped detector ") n
name_of kinds.PreemptInput n = named_text (codes "preempt input ") n

-- the label of the band at this place
abbrev pub label_text : ℕ → Band → List ℕ
label_text place band =
    attribute_text (codes "<text class=\"l\" x=\"132\" y=\"") (16 * place + 12)
    ++ (codes ">" ++ (name_of band.kind band.number ++ codes "</text>\n"))

-- those of bands, of which the first is at this place
unfoldable pub labels_text : ℕ → List Band → List ℕ
labels_text place [] = []
labels_text place (band ∷ bands) = label_text place band ++ labels_text (place + 1) bands

-- ## Bars

-- the bars of the band at this place, of what is in force in a line
abbrev pub band_text : ℕ → ℕ → List Shown → List LogRow → ℕ → Band → List ℕ
band_text first end changes rows place band =
    bars_text place (bars_of tick_of_change (mark_in_change band) first end changes)
    ++ bars_text place (bars_of tick_of_row (mark_in_row band) first end rows)

-- those of bands
unfoldable pub bands_text : ℕ → ℕ → List Shown → List LogRow → ℕ → List Band → List ℕ
bands_text first end changes rows place [] = []
bands_text first end changes rows place (band ∷ bands) =
    band_text first end changes rows place band ++ bands_text first end changes rows (place + 1) bands

-- the frame in which a tick is one unit wide, from this tick on
abbrev pub frame_text : ℕ → ℕ → ℕ → List ℕ
frame_text height first ticks =
    attribute_text (codes "<svg x=\"140\" width=\"1000\" preserveAspectRatio=\"none\" height=\"") height
    ++ (named_text (codes " viewBox=\"") first
    ++ (named_text (codes " 0 ") ticks ++ (named_text (codes " ") height ++ codes "\">\n")))

-- ## The axis

-- how many seconds from one mark of the axis to the next: the least of these by which a line has 20 marks at most
abbrev pub step_of : ℕ → ℕ
step_of seconds =
    if nat_le seconds 20 then 1 else
    (if nat_le seconds 100 then 5 else
    (if nat_le seconds 200 then 10 else
    (if nat_le seconds 600 then 30 else
    (if nat_le seconds 1200 then 60 else
    (if nat_le seconds 6000 then 300 else
    (if nat_le seconds 12000 then 600 else
    (if nat_le seconds 36000 then 1800 else 7200)))))))

-- the tenth of a second, of those that the axis counts, at which line k begins: where tick 1 has a time of day, from
-- midnight on
abbrev pub begin_of : Option ℕ → ℕ → ℕ → ℕ
begin_of clock seconds k = or_number clock 0 + k * (10 * seconds)

-- what is told at a mark: the clock at a minute, and else the second of the minute
abbrev pub mark_name : Option ℕ → ℕ → List ℕ
mark_name clock second = if second % 60 == 0 then clock_text clock second else number_text (second % 60)

-- how far from the left a second stands, in a line of so many seconds from this tenth on
abbrev pub place_of : ℕ → ℕ → ℕ → ℕ
place_of seconds begin second = 140 + (10 * second - begin) * 1000 / (10 * seconds)

-- the line of a mark that stands here, through so many bands
abbrev pub grid_text : ℕ → ℕ → List ℕ
grid_text bands x =
    attribute_text (codes "<line class=\"a\" x1=\"") x ++ (attribute_text (codes " x2=\"") x
    ++ (attribute_text (codes " y2=\"") (height_of bands + 4) ++ codes "/>"))

-- what is told below it
abbrev pub second_text : ℕ → Option ℕ → ℕ → ℕ → List ℕ
second_text bands clock x second =
    attribute_text (codes "<text class=\"k\" x=\"") x ++ (attribute_text (codes " y=\"") (height_of bands + 16)
    ++ (codes ">" ++ (mark_name clock second ++ codes "</text>\n")))

-- the mark of a second
abbrev pub mark_text : ℕ → Option ℕ → ℕ → ℕ → ℕ → List ℕ
mark_text bands clock seconds begin second =
    grid_text bands (place_of seconds begin second) ++ second_text bands clock (place_of seconds begin second) second

-- so many marks, a step from one to the next, from this one on
unfoldable pub marks_text : ℕ → Option ℕ → ℕ → ℕ → ℕ → ℕ → ℕ → List ℕ
marks_text bands clock seconds begin step index zero = []
marks_text bands clock seconds begin step index (suc count) =
    mark_text bands clock seconds begin (index * step) ++ marks_text bands clock seconds begin step (index + 1) count

-- how many marks there are before a tenth of a second
abbrev pub marks_before : ℕ → ℕ → ℕ
marks_before tenth step = (tenth + (10 * step - 1)) / (10 * step)

-- the marks from one tenth of a second to before another
abbrev pub marks_between : ℕ → Option ℕ → ℕ → ℕ → ℕ → ℕ → List ℕ
marks_between bands clock seconds begin end step =
    marks_text bands clock seconds begin step (marks_before begin step) (marks_before end step - marks_before begin step)

-- the axis of line k
abbrev pub axis_text : ℕ → Option ℕ → ℕ → ℕ → List ℕ
axis_text bands clock seconds k =
    marks_between bands clock seconds (begin_of clock seconds k) (begin_of clock seconds k + 10 * seconds) (step_of seconds)

-- ## Lines

-- how high a line is
abbrev pub line_height : ℕ → ℕ
line_height bands = height_of bands + 36

-- how far from the top line k stands
abbrev pub line_top : ℕ → ℕ → ℕ
line_top bands k = 64 + k * line_height bands

-- the clock of line k
abbrev pub line_clock : Option ℕ → ℕ → ℕ → List ℕ
line_clock clock seconds k = clock_text clock (begin_of clock seconds k / 10)

-- the head of line k: where it stands, and its clock
abbrev pub head_text : ℕ → Option ℕ → ℕ → ℕ → List ℕ
head_text bands clock seconds k =
    attribute_text (codes "<svg width=\"1160\" height=\"") (line_height bands)
    ++ (attribute_text (codes " y=\"") (line_top bands k)
    ++ (codes ">\n<text class=\"b\" x=\"4\" y=\"12\">" ++ (line_clock clock seconds k ++ codes "</text>\n")))

-- the bars of line k, of what is in force from its first tick on
abbrev pub plot_text : List Band → Scale → ℕ → List Shown → List LogRow → List ℕ
plot_text bands scale k changes rows =
    frame_text (height_of (length bands)) (first_tick scale.seconds k) (10 * scale.seconds)
    ++ (bands_text (first_tick scale.seconds k) (end_tick scale.seconds scale.last k)
    (before_tick tick_of_change (end_tick scale.seconds scale.last k) changes)
    (before_tick tick_of_row (end_tick scale.seconds scale.last k) rows) 0 bands
    ++ codes "</svg>\n")

-- line k, of what is in force from its first tick on
unfoldable pub line_text : List Band → Scale → ℕ → List Shown → List LogRow → List ℕ
line_text bands scale k changes rows =
    head_text (length bands) scale.clock scale.seconds k ++ (labels_text 0 bands ++ (axis_text (length bands) scale.clock scale.seconds k
    ++ (plot_text bands scale k changes rows ++ codes "</svg>\n")))

-- so many lines, from line k on
unfoldable pub lines_text : List Band → Scale → List Shown → List LogRow → ℕ → ℕ → List ℕ
lines_text bands scale changes rows k zero = []
lines_text bands scale changes rows k (suc count) =
    line_text bands scale k (from_tick tick_of_change (first_tick scale.seconds k) changes)
    (from_tick tick_of_row (first_tick scale.seconds k) rows)
    ++ lines_text bands scale changes rows (k + 1) count

-- all of them
abbrev pub all_lines : List Band → Scale → List Shown → List LogRow → List ℕ
all_lines bands scale changes rows = lines_text bands scale changes rows 0 (line_count scale.seconds scale.last)
