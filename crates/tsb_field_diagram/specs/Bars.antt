-- The bars of a band: the stretches in which it shows one mark, from one tick to another. A stretch in which it is
-- dark is a bar like the others, but has no text.
use Rattle.std.specs.Prelude.{ℕ, ◌+◌, ◌-◌, ◌*◌, ◌==◌, nat_le, nat_lt, max, Bool, if◌then◌else◌, List, [], ◌∷◌, ◌++◌, codes}
use Rattle.tsb_field_diagram.specs.declared.band.BandMark.{BandMark}
use Rattle.tsb_field_diagram.specs.declared.band.BandMark.TheVariants.{Dark, Green, Yellow, Red, Flashing, Walk, Clearance, DontWalk, Served, On, Arrow}
use Rattle.tsb_field_diagram.specs.Text.{attribute_text}

-- ## What is in force in a line

-- of items, each in force from its tick until the next: that in force at a tick, or else the first, and all after it
unfoldable pub from_tick : {A : Type 0} → (A → ℕ) → ℕ → List A → List A
from_tick tick first [] = []
from_tick tick first (x ∷ []) = x ∷ []
from_tick tick first (x ∷ (y ∷ xs)) = if nat_le (tick y) first then from_tick tick first (y ∷ xs) else x ∷ (y ∷ xs)

-- those before a tick
unfoldable pub before_tick : {A : Type 0} → (A → ℕ) → ℕ → List A → List A
before_tick tick end [] = []
before_tick tick end (x ∷ xs) = if nat_lt (tick x) end then x ∷ before_tick tick end xs else []

-- those in force in a line, from its first tick to before its end
abbrev pub in_line : {A : Type 0} → (A → ℕ) → ℕ → ℕ → List A → List A
in_line tick first end xs = before_tick tick end (from_tick tick first xs)

-- ## Bars

-- a mark, as a number
abbrev pub number_of : BandMark → ℕ
number_of Dark = 0
number_of Green = 1
number_of Yellow = 2
number_of Red = 3
number_of Flashing = 4
number_of Walk = 5
number_of Clearance = 6
number_of DontWalk = 7
number_of Served = 8
number_of On = 9
number_of Arrow = 10

-- the marks are one
abbrev pub is_same : BandMark → BandMark → Bool
is_same one other = number_of one == number_of other

-- a bar: from its first tick to before its end
pub record Bar : Type 0 where
  pub begin : ℕ
  pub end : ℕ
  pub mark : BandMark

-- one of this mark, from this tick to before that
abbrev pub bar : ℕ → ℕ → BandMark → Bar
bar begin end mark = record { begin = begin; end = end; mark = mark }

-- the bars to the end, where one of this mark has begun, and these items follow
unfoldable pub bars_on : {A : Type 0} → (A → ℕ) → (A → BandMark) → ℕ → BandMark → ℕ → List A → List Bar
bars_on tick shown begin now end [] = bar begin end now ∷ []
bars_on tick shown begin now end (x ∷ xs) =
    if is_same (shown x) now then bars_on tick shown begin now end xs
    else bar begin (tick x) now ∷ bars_on tick shown (tick x) (shown x) end xs

-- the bars of items, of which the first is in force from the first tick of a line on, or begins later
unfoldable pub bars_of : {A : Type 0} → (A → ℕ) → (A → BandMark) → ℕ → ℕ → List A → List Bar
bars_of tick shown first end [] = []
bars_of tick shown first end (x ∷ xs) = bars_on tick shown (max first (tick x)) (shown x) end xs

-- ## Their text

-- a shape of this mark, up to where it begins
abbrev pub shape_of : BandMark → List ℕ
shape_of Dark = []
shape_of Green = codes "<rect class=\"g\" height=\"12\" x=\""
shape_of Yellow = codes "<rect class=\"y\" height=\"12\" x=\""
shape_of Red = codes "<rect class=\"r\" height=\"3\" x=\""
shape_of Flashing = codes "<rect class=\"f\" height=\"6\" x=\""
shape_of Walk = codes "<rect class=\"w\" height=\"8\" x=\""
shape_of Clearance = codes "<rect class=\"c\" height=\"8\" x=\""
shape_of DontWalk = codes "<rect class=\"d\" height=\"1\" x=\""
shape_of Served = codes "<rect class=\"p\" height=\"8\" x=\""
shape_of On = codes "<rect class=\"o\" height=\"4\" x=\""
shape_of Arrow = codes "<rect class=\"q\" height=\"8\" x=\""

-- how far it stands below the top of its band
abbrev pub inset_of : BandMark → ℕ
inset_of Dark = 0
inset_of Green = 2
inset_of Yellow = 2
inset_of Red = 7
inset_of Flashing = 5
inset_of Walk = 4
inset_of Clearance = 4
inset_of DontWalk = 8
inset_of Served = 4
inset_of On = 6
inset_of Arrow = 4

-- the text of a shape in the band at this place, the first at place 0
abbrev pub shape_text : ℕ → ℕ → ℕ → BandMark → List ℕ
shape_text place begin end mark =
    attribute_text (shape_of mark) begin ++ (attribute_text (codes " y=\"") (16 * place + inset_of mark)
    ++ (attribute_text (codes " width=\"") (end - begin) ++ codes "/>\n"))

-- the text of a bar: none where the band is dark
abbrev pub bar_text : ℕ → ℕ → ℕ → BandMark → List ℕ
bar_text place begin end mark = if is_same mark Dark then [] else shape_text place begin end mark

-- of the bars of a band
unfoldable pub bars_text : ℕ → List Bar → List ℕ
bars_text place [] = []
bars_text place (b ∷ bs) = bar_text place b.begin b.end b.mark ++ bars_text place bs
