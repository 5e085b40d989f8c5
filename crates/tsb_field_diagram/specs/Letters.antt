-- The letters that say why greens ended, each at the end of its green, and a line that says what they mean.
--
-- They are drawn over all lines. A green that ends at a tick was lit last in the tick before it.
use Rattle.std.specs.Prelude.{ℕ, ◌+◌, ◌-◌, ◌*◌, ◌/◌, ◌%◌, ◌==◌, nat_le, Bool, true, false, ◌&&◌, if◌then◌else◌, List, [], ◌∷◌, ◌++◌, codes, length}
use Rattle.tsb_field_diagram.specs.declared.band.Band.{Band}
use Rattle.tsb_field_diagram.specs.declared.band.BandKind.{BandKind}
use Rattle.tsb_field_diagram.specs.declared.band.BandKind.TheVariants as kinds
use Rattle.tsb_field_diagram.specs.declared.ends.GreenEnd.{GreenEnd}
use Rattle.tsb_field_diagram.specs.declared.ends.Why.{Why}
use Rattle.tsb_field_diagram.specs.declared.ends.Why.TheVariants.{Gap, Maximum, ForceOff}
use Rattle.tsb_field_diagram.specs.Text.{attribute_text}
use Rattle.tsb_field_diagram.specs.Lines.{line_top}

-- its letter
abbrev pub letter_of : Why → List ℕ
letter_of Gap = codes "G"
letter_of Maximum = codes "M"
letter_of ForceOff = codes "F"

-- the last tick of the green is one of the picture
abbrev pub is_drawn : ℕ → ℕ → Bool
is_drawn last tick = nat_le 2 tick && nat_le tick (last + 1)

-- how far from the left the letter ends: a unit before its green does
abbrev pub letter_end : ℕ → ℕ → ℕ
letter_end seconds tick = 139 + ((tick - 2) % (10 * seconds) + 1) * 1000 / (10 * seconds)

-- how far from the top it is, for a band at this place among so many
abbrev pub letter_foot : ℕ → ℕ → ℕ → ℕ → ℕ
letter_foot count seconds place tick = line_top count ((tick - 2) / (10 * seconds)) + (16 * place + 12)

-- the letter of an end in the band at this place
abbrev pub letter_text : ℕ → ℕ → GreenEnd → ℕ → List ℕ
letter_text count seconds given place =
    attribute_text (codes "<text x=\"") (letter_end seconds given.tick)
    ++ (attribute_text (codes " y=\"") (letter_foot count seconds place given.tick)
    ++ (codes ">" ++ (letter_of given.why ++ codes "</text>\n")))

-- a band of this kind is of heads of phases
abbrev pub is_head : BandKind → Bool
is_head kinds.Vehicle = true
is_head kinds.Preempt = false
is_head kinds.Flash = false
is_head kinds.Pedestrian = false
is_head kinds.Overlap = false
is_head kinds.VehicleInput = false
is_head kinds.PedestrianInput = false
is_head kinds.PreemptInput = false

-- the letter in the band at this place, where that is the head of the phase
unfoldable pub letter_in : ℕ → ℕ → GreenEnd → ℕ → Band → List ℕ
letter_in count seconds given place band =
    if is_head band.kind && band.number == given.phase then letter_text count seconds given place else []

-- those in bands from this place on
unfoldable pub letter_among : ℕ → ℕ → GreenEnd → ℕ → List Band → List ℕ
letter_among count seconds given place [] = []
letter_among count seconds given place (band ∷ bands) =
    letter_in count seconds given place band ++ letter_among count seconds given (place + 1) bands

-- the letter of an end
unfoldable pub end_text : List Band → ℕ → ℕ → GreenEnd → List ℕ
end_text bands seconds last given =
    if is_drawn last given.tick then letter_among (length bands) seconds given 0 bands else []

-- those of ends
unfoldable pub letters_text : List Band → ℕ → ℕ → List GreenEnd → List ℕ
letters_text bands seconds last [] = []
letters_text bands seconds last (given ∷ ends) = end_text bands seconds last given ++ letters_text bands seconds last ends

-- what they mean, and how they are drawn: black with a white rim, to be read on any bar
unfoldable pub meaning_text : List ℕ
meaning_text = codes "<text x=\"140\" y=\"60\">The letter at the end of a green: G gap out, M max out, F force-off</text>\n<g text-anchor=\"end\" font-weight=\"bold\" stroke=\"#fff\" stroke-width=\"2\" paint-order=\"stroke\">\n"

-- all of that: nothing where no end is given
unfoldable pub ends_text : List Band → ℕ → ℕ → List GreenEnd → List ℕ
ends_text bands seconds last [] = []
ends_text bands seconds last (given ∷ ends) =
    meaning_text ++ (letters_text bands seconds last (given ∷ ends) ++ codes "</g>\n")
