-- A walk that begins within a green: it is found where it begins, and its phase is not ready in that tick.
use Rattle.std.proofs.Common.{◌≡◌, ℕ, Bool, true, false, not, ◌&&◌, if◌then◌else◌, refl, sym, ap, ◌∙◌}
use Rattle.tsb_objects.specs.tsb_types.declared.interval.PedestrianInterval.{PedestrianInterval}
use Rattle.tsb_objects.specs.tsb_types.declared.interval.PedestrianInterval.TheVariants.{DontWalk, Walk, PedestrianClear}
use Rattle.tsb_objects.specs.tsb_types.Intervals.{is_walk, is_dont_walk}
use Rattle.tsb_objects.specs.tsb_plan.Plan.{Plan}
use Rattle.tsb_phase.specs.declared.phase_row.PhaseRow.{PhaseRow}
use Rattle.tsb_phase.specs.Phase.{Phase, Given}
use Rattle.tsb_phase.specs.Pedestrian.{clearance_has_ended, may_walk_again, pedestrian_after, pedestrian_now, walks_again}
use Rattle.tsb_phase.specs.Cells.{phase_of, pedestrian_of_row}
use Rattle.tsb_phase.proofs.ToldLemmas.{walk-by}

by_call : (b : Bool) → is_walk (if b then Walk else DontWalk) ≡ b
by_call true = refl
by_call false = refl

by_time : (b : Bool) → is_walk (if b then DontWalk else PedestrianClear) ≡ false
by_time true = refl
by_time false = refl

begins_in : (plan : Plan) (given : Given) (p : ℕ) (w : Phase) (part : PedestrianInterval) →
    (not (is_walk part) && is_walk (pedestrian_after plan given p w part)) ≡ (is_dont_walk part && may_walk_again given p w)
begins_in plan given p w DontWalk = by_call (may_walk_again given p w)
begins_in plan given p w Walk = refl
begins_in plan given p w PedestrianClear = by_time (clearance_has_ended plan given p w)

-- a phase that was not in Walk is in it now exactly where a walk begins within its green
pub walk_begins : (plan : Plan) (given : Given) (p : ℕ) (w : Phase) →
    (not (is_walk w.pedestrian) && is_walk (pedestrian_now plan given p w)) ≡ walks_again given p w
unfolding pedestrian_now
walk_begins plan given p w = begins_in plan given p w w.pedestrian

-- and so a row has it
pub row_tells : (now : ℕ) (plan : Plan) (given : Given) (p : ℕ) (was : PhaseRow) (part : PedestrianInterval) →
    part ≡ pedestrian_now plan given p (phase_of now was) →
    (not was.walk && is_walk part) ≡ walks_again given p (phase_of now was)
row_tells now plan given p was part e =
    ap (λ (b : Bool). not b && is_walk part) (sym (walk-by was.walk was.clearance))
    ∙ ap (λ (x : PedestrianInterval). not (is_walk (pedestrian_of_row was)) && is_walk x) e
    ∙ walk_begins plan given p (phase_of now was)

-- what becomes of DontWalk
pub from_dont_walk : (plan : Plan) (given : Given) (p : ℕ) (w : Phase) (walks : Bool) → w.pedestrian ≡ DontWalk →
    walks ≡ may_walk_again given p w → pedestrian_now plan given p w ≡ (if walks then Walk else DontWalk)
unfolding pedestrian_now
from_dont_walk plan given p w walks e f = rw (e, f) refl
