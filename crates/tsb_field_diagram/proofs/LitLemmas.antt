-- The bands of a diagram, number by number.
use Rattle.std.proofs.Common.{◌≡◌, ℕ, ◌+◌, suc, List, [], ◌++◌, refl}
use Rattle.tsb_field_display.specs.declared.shown.Shown.{Shown}
use Rattle.tsb_log_text.specs.declared.log.LogRow.{LogRow}
use Rattle.tsb_field_diagram.specs.declared.band.BandKind.{BandKind}
use Rattle.tsb_field_diagram.specs.declared.band.BandKind.TheVariants as kinds
use Rattle.tsb_field_diagram.specs.Lit.{band_if, bands_on, phases_on}

pub bands-more : (changes : List Shown) (rows : List LogRow) (kind : BandKind) (k n : ℕ) →
    bands_on changes rows kind k (suc n) ≡ band_if changes rows kind (k + 1) ++ bands_on changes rows kind (k + 1) n
unfolding bands_on
bands-more changes rows kind k n = refl

pub bands-none : (changes : List Shown) (rows : List LogRow) (kind : BandKind) (k : ℕ) → bands_on changes rows kind k 0 ≡ []
unfolding bands_on
bands-none changes rows kind k = refl

pub phases-more : (changes : List Shown) (rows : List LogRow) (k n : ℕ) →
    phases_on changes rows k (suc n)
    ≡ (band_if changes rows kinds.Vehicle (k + 1) ++ band_if changes rows kinds.Pedestrian (k + 1)) ++ phases_on changes rows (k + 1) n
unfolding phases_on
phases-more changes rows k n = refl

pub phases-none : (changes : List Shown) (rows : List LogRow) (k : ℕ) → phases_on changes rows k 0 ≡ []
unfolding phases_on
phases-none changes rows k = refl
