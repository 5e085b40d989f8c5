-- No vehicles wait where no phase is callable, so that the gap of a green is reduced by its time alone; and a force-off
-- that has come has one event.
use Rattle.std.proofs.Common.{zero, suc, ◌≡◌, ℕ, nat_le, nat_lt, Bool, true, false, ◌&&◌, ◌||◌, if◌then◌else◌, List, [], ◌∷◌, sum_by, refl, sym, ap, arith, ◌∙◌}
use Rattle.std.proofs.lemmas.Bool.Decides.{nat_tests}
use Rattle.std.proofs.Math.Bool.{and-false}
use Rattle.tsb_step.specs.tsb_cells.declared.timer.Timer.{Timer}
use Rattle.tsb_step.specs.tsb_cells.declared.timer.Timer.TheVariants.{Off, On}
use Rattle.tsb_step.specs.tsb_cells.Timer.{is_on, started, has_reached}
use Rattle.tsb_step.specs.tsb_plan.Plan.{Plan, phases, time_before_reduction, cars_before_reduction}
use Rattle.tsb_phase.specs.declared.told.PhaseTimes.{PhaseTimes}
use Rattle.tsb_phase.specs.Phase.{held_of}
use Rattle.tsb_phase.specs.Green.{cars_waiting, has_cars_before_reduction, begun, reduction_timer}
use Rattle.tsb_status.specs.declared.times.GreenFound.{GreenFound}
use Rattle.tsb_status.specs.Times.{phase_by, given_by}

none-waits : (ps : List ℕ) → sum_by (λ q. 0) ps ≡ 0
none-waits [] = refl
none-waits (p ∷ ps) = rw (none-waits ps) refl

no-cars : (plan : Plan) (found : GreenFound) (x : PhaseTimes) (p : ℕ) → has_cars_before_reduction plan (given_by found x) p ≡ false
unfolding cars_waiting
no-cars plan found x p = go (cars_before_reduction plan p) (sum_by (λ q. 0) (phases plan)) (none-waits (phases plan))
  where
    go : (n cars : ℕ) → cars ≡ 0 → (nat_lt 0 n && nat_le n cars) ≡ false
    go zero cars e = refl
    go (suc n) cars e = let few : nat_le (suc n) cars ≡ false = grind (arith, nat_tests, e) in rw few (and-false (nat_lt 0 (suc n)))

-- the reduction timer stays Off where there is a conflict that has not lasted the time before reduction
pub reduction-rests : (plan : Plan) (found : GreenFound) (x : PhaseTimes) (p time : ℕ) → is_on x.conflict ≡ true → x.reduction ≡ Off →
    time ≡ time_before_reduction plan p → has_reached x.conflict time ≡ false → Off ≡ reduction_timer plan (given_by found x) p (held_of (phase_by x))
unfolding reduction_timer
reduction-rests plan found x p time on off same short =
    go x.conflict x.reduction (has_cars_before_reduction plan (given_by found x) p) on off (no-cars plan found x p)
    (sym (ap (has_reached x.conflict) same) ∙ short)
  where
    go : (k r : Timer) (cars : Bool) → is_on k ≡ true → r ≡ Off → cars ≡ false → has_reached k (time_before_reduction plan p) ≡ false →
        Off ≡ (if is_on k then begun (has_reached (if is_on k then started k else Off) (time_before_reduction plan p) || cars) r else Off)
    go Off r cars e f h l = absurd cc
    go (On n) (On m) cars e f h l = absurd cc
    go (On n) Off cars e f h l = rw (l, h) refl

-- the latch is set by the force-off of the cycle too
pub once_forced : (forced floats : Bool) → (forced || (floats || forced)) ≡ (forced || floats)
once_forced true floats = refl
once_forced false true = refl
once_forced false false = refl
