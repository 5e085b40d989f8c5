-- The letters that a display line has of heads.
use Rattle.std.specs.Prelude.{◌≡◌}
use Rattle.tsb_heads.specs.Heads.{Heads}
use Rattle.tsb_display_text.specs.Line.{vehicle_field, pedestrian_field, wide_overlap_field}
pub use Rattle.tsb_display_text.specs.declared.letters.Letters.{Letters}

-- they are those of what these heads show
pub record AreOf (letters : Letters) (heads : Heads) : Type 0 where
  pub vehicles : letters.vehicles ≡ vehicle_field heads.vehicle
  pub pedestrians : letters.pedestrians ≡ pedestrian_field heads.pedestrian
  pub overlaps : letters.overlaps ≡ wide_overlap_field heads.overlap
