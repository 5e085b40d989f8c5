use Rattle.std.proofs.Common.{subst, sym}
use Rattle.tsb_display_text.specs.tsb_heads.Promises.{IsApart}
use Rattle.tsb_types.specs.Sets.{has_number}
use Rattle.tsb_field_display.specs.declared.shown.VehicleHeads.{VehicleHeads}
use Rattle.tsb_field_display.specs.declared.shown.PedestrianHeads.{PedestrianHeads}
use Rattle.tsb_field_display.proofs.LetterLemmas.{apart-pedestrians, apart-overlaps, apart-green_arrows, apart-yellow_arrows}
use Rattle.tsb_field_display.proofs.reading.read_line.Goals as goal

pub returns-clause-apart : goal.returns-clause-apart
returns-clause-apart c = record {
  pedestrians = subst (λ (h : PedestrianHeads). IsApart (has_number h.walks) (has_number h.clearances)) (sym c.pedestrians.ensures) (apart-pedestrians _);
  overlaps = subst (λ (h : VehicleHeads). IsApart (has_number h.greens) (has_number h.yellows)) (sym c.overlaps.ensures) (apart-overlaps _);
  green_arrows = subst (λ (h : VehicleHeads). IsApart (has_number h.greens) (has_number h.arrows)) (sym c.overlaps.ensures) (apart-green_arrows _);
  yellow_arrows = subst (λ (h : VehicleHeads). IsApart (has_number h.yellows) (has_number h.arrows)) (sym c.overlaps.ensures) (apart-yellow_arrows _);
}
