-- A diagram as a whole: its head with title and legend, and its lines.
use Rattle.std.specs.Prelude.{ℕ, ◌+◌, ◌*◌, ◌/◌, ◌%◌, min, max, List, ◌++◌, codes, length, Option, Some, None}
use Rattle.tsb_types.specs.Lists.{or_number}
use Rattle.tsb_field_diagram.specs.declared.band.Band.{Band}
use Rattle.tsb_field_diagram.specs.declared.line.Scale.{Scale}
use Rattle.tsb_event_text.specs.declared.times.Moment.{Moment}
use Rattle.tsb_field_diagram.specs.Given.{Form, Session}
use Rattle.tsb_field_diagram.specs.Text.{escaped, named_text}
use Rattle.tsb_field_diagram.specs.Bands.{tick_of_row}
use Rattle.tsb_field_diagram.specs.Bars.{before_tick}
use Rattle.tsb_field_diagram.specs.ArrowKey.{key_text}
use Rattle.tsb_field_diagram.specs.Letters.{ends_text}
use Rattle.tsb_field_diagram.specs.Lit.{bands_of}
use Rattle.tsb_field_diagram.specs.Lines.{all_lines, line_count, line_top}

-- the classes of its shapes
unfoldable pub style_text : List ℕ
style_text = codes "<style>.g{fill:#1a7f37}.y{fill:url(#h)}.r{fill:#c00}.f{fill:url(#f)}.w{fill:#06c}.c{fill:url(#i)}.d{fill:#888}.p{fill:#639}.o{fill:#000}.a{stroke:#bbb}.b{font-weight:bold}.k{text-anchor:middle}.l{text-anchor:end}.t{font-size:16px;font-weight:bold}</style>\n"

-- the shapes of the legend
unfoldable pub shapes_text : List ℕ
shapes_text = codes "<rect class=\"g\" height=\"12\" y=\"2\" x=\"0%\" width=\"3%\"/><rect class=\"y\" height=\"12\" y=\"2\" x=\"11%\" width=\"3%\"/><rect class=\"r\" height=\"3\" y=\"7\" x=\"22%\" width=\"3%\"/><rect class=\"f\" height=\"6\" y=\"5\" x=\"33%\" width=\"3%\"/><rect class=\"w\" height=\"8\" y=\"4\" x=\"44%\" width=\"3%\"/><rect class=\"c\" height=\"8\" y=\"4\" x=\"55%\" width=\"3%\"/><rect class=\"d\" height=\"1\" y=\"8\" x=\"66%\" width=\"3%\"/><rect class=\"p\" height=\"8\" y=\"4\" x=\"77%\" width=\"3%\"/><rect class=\"o\" height=\"4\" y=\"6\" x=\"88%\" width=\"3%\"/></svg>\n"

-- their names
unfoldable pub names_text : List ℕ
names_text = codes "<text x=\"175\" y=\"44\">green</text><text x=\"285\" y=\"44\">yellow</text><text x=\"395\" y=\"44\">red</text><text x=\"505\" y=\"44\">flashing red</text><text x=\"615\" y=\"44\">walk</text><text x=\"725\" y=\"44\">clearance</text><text x=\"835\" y=\"44\">don't walk</text><text x=\"945\" y=\"44\">preempt</text><text x=\"1055\" y=\"44\">input on</text>\n"

-- the pattern of what flashes, for lines of so many seconds: their ticks are drawn 1000 units wide, so that the pattern
-- is drawn 10 units wide, whatever the seconds
abbrev pub flash_text : ℕ → List ℕ
flash_text seconds =
    named_text (codes "<pattern id=\"f\" width=\"10\" height=\"12\" patternUnits=\"userSpaceOnUse\" patternTransform=\"scale(") seconds
    ++ codes "e-2 1)\"><rect width=\"5\" height=\"12\" fill=\"#c00\"/></pattern>\n"

-- the pattern of yellow, drawn 6 units wide
abbrev pub yellow_text : ℕ → List ℕ
yellow_text seconds =
    named_text (codes "<pattern id=\"h\" width=\"6\" height=\"6\" patternUnits=\"userSpaceOnUse\" patternTransform=\"scale(") seconds
    ++ codes "e-2 1) rotate(45)\"><rect width=\"6\" height=\"6\" fill=\"#fd4\"/><rect width=\"2\" height=\"6\"/></pattern>\n"

-- the pattern of clearance, drawn 4 units wide
abbrev pub clearance_text : ℕ → List ℕ
clearance_text seconds =
    named_text (codes "<pattern id=\"i\" width=\"4\" height=\"4\" patternUnits=\"userSpaceOnUse\" patternTransform=\"scale(") seconds
    ++ codes "e-2 1) rotate(-45)\"><rect width=\"4\" height=\"4\" fill=\"#fff\"/><rect width=\"2\" height=\"4\" fill=\"#06c\"/></pattern>\n"

-- the legend, whose shapes are drawn as those of lines are
abbrev pub legend_text : ℕ → List ℕ
legend_text seconds =
    named_text (codes "<svg x=\"140\" y=\"32\" width=\"1000\" height=\"16\" preserveAspectRatio=\"none\" viewBox=\"0 0 ") (10 * seconds)
    ++ (codes " 16\">\n" ++ (shapes_text ++ names_text))

-- the head of the picture, so high
abbrev pub opening_text : ℕ → List ℕ
opening_text height =
    named_text (codes "<svg xmlns=\"http://www.w3.org/2000/svg\" font-family=\"sans-serif\" font-size=\"11\" width=\"1160\" height=\"") height
    ++ (named_text (codes "\" viewBox=\"0 0 1160 ") height ++ codes "\">\n")

-- the title, as a viewer tells it and as it stands over the diagram
abbrev pub titles_text : List ℕ → List ℕ
titles_text title =
    codes "<title>" ++ (escaped title
    ++ (codes "</title>\n<rect width=\"100%\" height=\"100%\" fill=\"#fff\"/>\n<text class=\"t\" x=\"4\" y=\"20\">"
    ++ (escaped title ++ codes "</text>\n")))

-- the classes and patterns of shapes
abbrev pub classes_text : ℕ → List ℕ
classes_text seconds = style_text ++ (flash_text seconds ++ (yellow_text seconds ++ clearance_text seconds))

-- all before the lines
unfoldable pub page_head : List ℕ → ℕ → ℕ → List ℕ
page_head title seconds height =
    opening_text height ++ (titles_text title ++ (classes_text seconds ++ legend_text seconds))

-- how high the picture is, of so many bands and up to this tick
abbrev pub page_height : ℕ → ℕ → ℕ → ℕ
page_height bands seconds last = line_top bands (line_count seconds last)

-- the seconds of a line: 1 to a day
abbrev pub line_seconds : ℕ → ℕ
line_seconds asked = min (max asked 1) 86400

-- the diagram of these bands
unfoldable pub picture_text : List ℕ → List Band → Scale → Session → List ℕ
picture_text title bands scale session =
    page_head title scale.seconds (page_height (length bands) scale.seconds scale.last)
    ++ (key_text bands scale.seconds session.changes
    ++ (all_lines bands scale session.changes session.rows
    ++ (ends_text bands scale.seconds scale.last session.ends ++ codes "</svg>\n")))

-- the time of day at which tick 1 begins, in tenths of a second, where its moment is known
abbrev pub clock_of : Option Moment → Option ℕ
clock_of None = None
clock_of (Some moment) = Some (moment.nanos / 100000000 % 864000)

-- how lines are laid out, up to this tick
abbrev pub scale_of : Form → ℕ → Scale
scale_of form last = record { clock = clock_of form.from; seconds = line_seconds form.seconds; last = last }

-- the bands of what is ever lit, or on up to this tick
abbrev pub bands_until : Session → ℕ → List Band
bands_until session last = bands_of session.changes (before_tick tick_of_row (last + 1) session.rows)

-- the phase diagram of a session
abbrev pub diagram_text : Form → Session → List ℕ
diagram_text form session =
    picture_text form.title (bands_until session (or_number session.last 0)) (scale_of form (or_number session.last 0)) session
