use Rattle.std.proofs.Common.{◌≡◌, Bool, true, false, not, ◌&&◌, Some, refl, sym, ap, ◌∙◌, rules}
use Rattle.tsb_plan.specs.Parts.{cycle}
use Rattle.tsb_plan.specs.Plan.{Plan}
use Rattle.tsb_types.specs.Sets.{has}
use Rattle.tsb_objects.specs.Checked.{checked_plan}
use Rattle.tsb_objects.specs.Instants.{force_off, walk_and_clearance, is_left, may_recycle}
use Rattle.tsb_objects.proofs.checked.Checked.recycled_at.Goals as goal

pub returns : goal.returns
returns c = λ p from within.
    let plan : Plan = checked_plan c.args.self.now in
    let fits : Bool = is_left (cycle plan c.args.n) (walk_and_clearance plan p) (Some c.args.local) (force_off plan (Some c.args.n) p) in
    c.with_time_to_walk.ensures p from within
    ∙ ap (λ (b : Bool). b && fits) (c.difference.ensures p ∙ ap (λ (b : Bool). b && not (has c.args.forced p)) (c.recycling-recycling.ensures p from within))
    ∙ regrouped (may_recycle plan (Some c.args.n) p) (not (has c.args.forced p)) fits
  where
    regrouped : (a b d : Bool) → ((a && b) && d) ≡ (a && (b && d))
    regrouped true b d = refl
    regrouped false b d = refl

pub returns-then-is_empty : goal.returns-then-is_empty
returns-then-is_empty c = λ p from within.
    let plan : Plan = checked_plan c.args.self.now in
    let rest : Bool = not (has c.args.forced p) && is_left (cycle plan c.args.n) (walk_and_clearance plan p) (Some c.args.local) (force_off plan (Some c.args.n) p) in
    let empty : c.is_empty.result ≡ true = search rules in
    let off : has c.recycling-recycling.result p ≡ false = c.is_empty.ensures.none empty p in
    off ∙ sym (ap (λ (b : Bool). b && rest) (sym (c.recycling-recycling.ensures p from within) ∙ off))
