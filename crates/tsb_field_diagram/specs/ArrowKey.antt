-- How a flashing yellow arrow is drawn, and what the diagram says of it: nothing where none is ever shown.
use Rattle.std.specs.Prelude.{ℕ, ◌*◌, Bool, if◌then◌else◌, List, [], ◌++◌, codes}
use Rattle.std.specs.List.{list_any}
use Rattle.tsb_field_display.specs.declared.shown.Shown.{Shown}
use Rattle.tsb_field_diagram.specs.declared.band.Band.{Band}
use Rattle.tsb_field_diagram.specs.declared.band.BandMark.TheVariants.{Arrow}
use Rattle.tsb_field_diagram.specs.Bands.{mark_in_change}
use Rattle.tsb_field_diagram.specs.Bars.{is_same}
use Rattle.tsb_field_diagram.specs.Text.{named_text}

-- some change shows an arrow in the band
abbrev pub shows_arrow : List Shown → Band → Bool
shows_arrow changes band = list_any (λ change. is_same (mark_in_change band change) Arrow) changes

-- some band ever shows one
abbrev pub has_arrow : List Shown → List Band → Bool
has_arrow changes bands = list_any (shows_arrow changes) bands

-- the class of its shape
unfoldable pub class_text : List ℕ
class_text = codes "<style>.q{fill:url(#q)}</style>\n"

-- its pattern, for lines of so many seconds: yellow that is broken and striped, drawn 10 units wide
abbrev pub pattern_text : ℕ → List ℕ
pattern_text seconds =
    named_text (codes "<pattern id=\"q\" width=\"10\" height=\"12\" patternUnits=\"userSpaceOnUse\" patternTransform=\"scale(") seconds
    ++ codes "e-2 1)\"><rect width=\"7\" height=\"12\" fill=\"#fd4\"/><rect width=\"2\" height=\"12\"/></pattern>\n"

-- its shape in the legend, below those of the others
abbrev pub sample_text : ℕ → List ℕ
sample_text seconds =
    named_text (codes "<svg x=\"140\" y=\"48\" width=\"1000\" height=\"16\" preserveAspectRatio=\"none\" viewBox=\"0 0 ") (10 * seconds)
    ++ codes " 16\"><rect class=\"q\" height=\"8\" y=\"4\" x=\"55%\" width=\"3%\"/></svg>\n"

-- its name
unfoldable pub name_text : List ℕ
name_text = codes "<text x=\"725\" y=\"60\">flashing yellow arrow</text>\n"

-- all of it, where some band ever shows one
unfoldable pub key_text : List Band → ℕ → List Shown → List ℕ
key_text bands seconds changes =
    if has_arrow changes bands
    then class_text ++ (pattern_text seconds ++ (sample_text seconds ++ name_text))
    else []
