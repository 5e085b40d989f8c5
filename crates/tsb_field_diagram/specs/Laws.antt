-- What holds of the bars of a band in a line, in words that do not retrace how they are found. Each law here is the
-- contract of a function in src/laws.rt.
use Rattle.std.specs.Prelude.{◌≡◌, ◌≢◌, ℕ, ◌<◌, ◌≤◌, nat_le, max, if◌then◌else◌, List, [], ◌∷◌}
use Rattle.tsb_field_diagram.specs.declared.band.Band.{Band}
use Rattle.tsb_field_diagram.specs.declared.band.BandMark.{BandMark}
use Rattle.tsb_field_diagram.specs.Bands.{mark_in_change, mark_in_row, tick_of_change, tick_of_row}
use Rattle.tsb_field_diagram.specs.Bars.{Bar, bars_of, in_line}

-- the tick is before that of the first of these items
abbrev pub IsBefore : {A : Type 0} → (A → ℕ) → ℕ → List A → Type 0
IsBefore tick t [] = Unit {0}
IsBefore tick t (x ∷ xs) = t < tick x

-- ticks rise from item to item
abbrev pub Rises : {A : Type 0} → (A → ℕ) → List A → Type 0
Rises tick [] = Unit {0}
Rises tick (x ∷ xs) = IsBefore tick (tick x) xs × Rises tick xs

-- the item in force at a tick, where this one is before all these: the last one that has begun
abbrev pub in_force : {A : Type 0} → (A → ℕ) → A → List A → ℕ → A
in_force tick before [] t = before
in_force tick before (x ∷ xs) t = if nat_le (tick x) t then in_force tick x xs t else before

-- bars that follow one another from a tick to before another, without gap or overlap, and none of which is empty
abbrev pub Fill : ℕ → List Bar → ℕ → Type 0
Fill begin [] end = begin ≡ end
Fill begin (b ∷ bs) end = (b.begin ≡ begin) × ((b.begin < b.end) × Fill b.end bs end)

-- the first of these bars has another mark than this, and each other one than that before it
abbrev pub DifferFrom : BandMark → List Bar → Type 0
DifferFrom before [] = Unit {0}
DifferFrom before (b ∷ bs) = (b.mark ≢ before) × DifferFrom b.mark bs

-- bars that follow one another have different marks
abbrev pub Differ : List Bar → Type 0
Differ [] = Unit {0}
Differ (b ∷ bs) = DifferFrom b.mark bs

-- at each tick of a bar, its mark is what is shown then
abbrev pub Tell : (ℕ → BandMark) → List Bar → Type 0
Tell shown [] = Unit {0}
Tell shown (b ∷ bs) = ((t : ℕ) → b.begin ≤ t → t < b.end → b.mark ≡ shown t) × Tell shown bs

-- bars that are the longest stretches of one mark, from a tick to before another, and tell what is shown
pub record AreStretches (begin end : ℕ) (shown : ℕ → BandMark) (bars : List Bar) : Type 0 where
  pub fill : Fill begin bars end
  pub differ : Differ bars
  pub tell : Tell shown bars

-- of items whose ticks rise, the bars in a line that the first of them reaches: they begin with the line, or with the
-- first item where that comes later, and end with the line
abbrev pub HaveStretches : {A : Type 0} → (A → ℕ) → (A → BandMark) → Type 0
HaveStretches {A} tick shown =
    (first end : ℕ) (x : A) (xs : List A) → Rises tick (x ∷ xs) → first < end → tick x < end →
    AreStretches (max first (tick x)) end (λ t. shown (in_force tick x xs t))
    (bars_of tick shown first end (in_line tick first end (x ∷ xs)))

-- where all items come after the line, it has no bars
abbrev pub HaveNone : {A : Type 0} → (A → ℕ) → (A → BandMark) → Type 0
HaveNone {A} tick shown =
    (first end : ℕ) (x : A) (xs : List A) → Rises tick (x ∷ xs) → first < end → end ≤ tick x →
    bars_of tick shown first end (in_line tick first end (x ∷ xs)) ≡ []

-- the bars of a band, of what display lines show
abbrev pub ShownAsStretches : Type 0
ShownAsStretches =
    (band : Band) → HaveStretches tick_of_change (mark_in_change band) × HaveNone tick_of_change (mark_in_change band)

-- and of the rows of a log
abbrev pub OnAsStretches : Type 0
OnAsStretches = (band : Band) → HaveStretches tick_of_row (mark_in_row band) × HaveNone tick_of_row (mark_in_row band)
