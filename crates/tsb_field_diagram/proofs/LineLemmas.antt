-- The lines of a diagram, part by part.
use Rattle.std.proofs.Common.{◌≡◌, ℕ, ◌+◌, ◌*◌, ◌≤◌, suc, true, false, List, [], ◌∷◌, ◌++◌, refl, arith, leb, inl, inr, Option}
use Rattle.std.proofs.lemmas.Bool.{le-leb}
use Rattle.std.proofs.lemmas.Bool.Decides.{leb_tells}
use Rattle.tsb_field_display.specs.declared.shown.Shown.{Shown}
use Rattle.tsb_log_text.specs.declared.log.LogRow.{LogRow}
use Rattle.tsb_field_diagram.specs.declared.band.Band.{Band}
use Rattle.tsb_field_diagram.specs.declared.line.Scale.{Scale}
use Rattle.tsb_field_diagram.specs.Bands.{tick_of_change, tick_of_row}
use Rattle.tsb_field_diagram.specs.Bars.{from_tick}
use Rattle.tsb_field_diagram.specs.Lines.{label_text, labels_text, band_text, bands_text, mark_text, marks_text, first_tick, line_text, lines_text}

pub labels-more : (k : ℕ) (band : Band) (bands : List Band) → labels_text k (band ∷ bands) ≡ label_text k band ++ labels_text (k + 1) bands
unfolding labels_text
labels-more k band bands = refl

pub labels-none : (k : ℕ) → labels_text k [] ≡ []
unfolding labels_text
labels-none k = refl

pub bands-more : (first end : ℕ) (changes : List Shown) (rows : List LogRow) (k : ℕ) (band : Band) (bands : List Band) →
    bands_text first end changes rows k (band ∷ bands) ≡ band_text first end changes rows k band ++ bands_text first end changes rows (k + 1) bands
unfolding bands_text
bands-more first end changes rows k band bands = refl

pub bands-none : (first end : ℕ) (changes : List Shown) (rows : List LogRow) (k : ℕ) → bands_text first end changes rows k [] ≡ []
unfolding bands_text
bands-none first end changes rows k = refl

pub marks-more : (bands : ℕ) (clock : Option ℕ) (seconds begin step k n : ℕ) →
    marks_text bands clock seconds begin step k (suc n) ≡ mark_text bands clock seconds begin (k * step) ++ marks_text bands clock seconds begin step (k + 1) n
unfolding marks_text
marks-more bands clock seconds begin step k n = refl

pub marks-none : (bands : ℕ) (clock : Option ℕ) (seconds begin step k : ℕ) → marks_text bands clock seconds begin step k 0 ≡ []
unfolding marks_text
marks-none bands clock seconds begin step k = refl

pub lines-more : (bands : List Band) (scale : Scale) (changes : List Shown) (rows : List LogRow) (k n : ℕ) →
    lines_text bands scale changes rows k (suc n)
    ≡ line_text bands scale k (from_tick tick_of_change (first_tick scale.seconds k) changes) (from_tick tick_of_row (first_tick scale.seconds k) rows)
    ++ lines_text bands scale changes rows (k + 1) n
unfolding lines_text
lines-more bands scale changes rows k n = refl

pub lines-none : (bands : List Band) (scale : Scale) (changes : List Shown) (rows : List LogRow) (k : ℕ) → lines_text bands scale changes rows k 0 ≡ []
unfolding lines_text
lines-none bands scale changes rows k = refl

-- what is in force from a tick on, of what is from an earlier one on
pub from-from : {A : Type 0} (tick : A → ℕ) (first later : ℕ) (xs : List A) → first ≤ later → from_tick tick later (from_tick tick first xs) ≡ from_tick tick later xs
unfolding from_tick
from-from tick first later [] le = refl
from-from tick first later (x ∷ []) le = refl
from-from tick first later (x ∷ (y ∷ xs)) le =
    elim (leb_tells (tick y) first) [
      | inl told ↦
          let here : tick y ≤ first = told.1 in
          let early : leb (tick y) first ≡ true = le-leb (tick y) first here in
          let later_too : leb (tick y) later ≡ true = le-leb (tick y) later (omega (arith, here, le)) in
          rw (early, later_too) (from-from tick first later (y ∷ xs) le)
      | inr told ↦
          let late : leb (tick y) first ≡ false = told.0 in
          rw late refl
    ]

-- the next line begins later
pub next-first : (seconds k : ℕ) → first_tick seconds k ≤ first_tick seconds (k + 1)
next-first seconds k = omega arith
