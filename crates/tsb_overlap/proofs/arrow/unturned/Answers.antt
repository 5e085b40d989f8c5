use Rattle.std.proofs.Common.{◌&&◌, ℕ, Bool, Option, if◌then◌else◌, subst}
use Rattle.tsb_objects.specs.tsb_plan.Plan.{phases}
use Rattle.tsb_objects.specs.tsb_plan.Parts.{is_included}
use Rattle.tsb_objects.specs.tsb_types.Lists.{first}
use Rattle.tsb_overlap.specs.declared.parts.OverlapInterval.TheVariants.{Red, Flashing}
use Rattle.tsb_overlap.specs.Overlap.{standing, ended_flash}
use Rattle.tsb_overlap.specs.Parts.{IsPartOf}
use Rattle.tsb_overlap.proofs.PartLemmas.{other-unturned, flash-unturned}
use Rattle.tsb_overlap.proofs.arrow.unturned.Goals as goal

pub returns-in-Flashing : goal.returns-in-Flashing
returns-in-Flashing c = λ plan given o may ended.
    flash-unturned plan given o c.args.turn c.args.now c.args.part.now c.flashing_or.result c.in-Flashing.is
    (subst (λ (b : Bool). IsPartOf c.args.now (if b then standing Flashing else ended_flash c.args.turn (first (λ p. is_included plan o p && given.was_green p) (phases plan))) c.flashing_or.result) may
    (subst (λ (q : Option ℕ). IsPartOf c.args.now (if c.args.flashes then standing Flashing else ended_flash c.args.turn q) c.flashing_or.result) ended
    (c.flashing_or.ensures c.args.now (ended_flash c.args.turn c.args.ended) c.ended_flash.ensures)))

pub returns-in_default : goal.returns-in_default
returns-in_default c = λ plan given o may ended.
    other-unturned plan given o c.args.turn c.args.now c.args.part.now c.flashing_or-in_default.result c.in_default.not-Yellow c.in_default.not-Green c.in_default.not-Flashing
    (subst (λ (b : Bool). IsPartOf c.args.now (if b then standing Flashing else standing Red) c.flashing_or-in_default.result) may
    (c.flashing_or-in_default.ensures c.args.now (standing Red) (c.standing.ensures c.args.now)))
