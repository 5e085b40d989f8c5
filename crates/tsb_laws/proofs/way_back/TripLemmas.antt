-- What the monitor finds names phases of the plan.
use Rattle.std.proofs.Common.{◌≡◌, ℕ, ◌+◌, ◌<◌, ◌≤◌, Bool, true, false, Option, Some, None, is_some, option_map, refl, arith}
use Rattle.std.specs.Option.{option_or}
use Rattle.tsb_step.specs.tsb_types.Lists.{first}
use Rattle.tsb_step.proofs.tsb_types.FirstLemmas.{first-within}
use Rattle.tsb_step.specs.tsb_plan.Plan.{Plan, phases}
use Rattle.tsb_step.specs.tsb_heads.declared.monitor.Trip.{Trip}
use Rattle.tsb_step.specs.tsb_heads.declared.monitor.Trip.TheVariants.{Conflict, GreenToRed}
use Rattle.tsb_step.specs.tsb_heads.Heads.{Heads}
use Rattle.tsb_step.specs.tsb_heads.Monitoring.{are_in_conflict, conflict_of, conflict_by, conflict, goes_red, green_to_red, judge}
use Rattle.tsb_step.specs.Cells.{clock_at}
use Rattle.tsb_step.specs.MonitorLaws.{IsUpTo, IsCause, IsTrip}
use Rattle.tsb_step.specs.State.{Tripped}

abbrev IsFound : Option Trip → Type 0
IsFound None = Unit {0}
IsFound (Some t) = IsCause t

found-or : (a b : Option Trip) → IsFound a → IsFound b → IsFound (option_or a b)
found-or None b h k = k
found-or (Some t) b h k = h

-- the first of the plan's phases
first-up : (plan : Plan) (test : ℕ → Bool) (p : ℕ) → plan.phase_count ≡ 16 → first test (phases plan) ≡ Some p → IsUpTo 16 p
first-up plan test p count h =
    let at : (1 ≤ p) × (p < 1 + plan.phase_count) = first-within test 1 plan.phase_count p h in
    (at.0, omega (arith, at.1, count))

conflict-by : (plan : Plan) (heads : Heads) (o : Option ℕ) → plan.phase_count ≡ 16 → ((p : ℕ) → o ≡ Some p → IsUpTo 16 p) → IsFound (conflict_by plan heads o)
unfolding conflict_of
conflict-by plan heads None count up = tt
conflict-by plan heads (Some p) count up = go (first (are_in_conflict plan heads p) (phases plan)) refl
  where
    go : (o : Option ℕ) → first (are_in_conflict plan heads p) (phases plan) ≡ o → IsFound (option_map (λ q. Conflict p q) o)
    go None e = tt
    go (Some q) e = (up p refl, first-up plan (are_in_conflict plan heads p) q count e)

conflict-up : (plan : Plan) (heads : Heads) → plan.phase_count ≡ 16 → IsFound (conflict plan heads)
unfolding conflict
conflict-up plan heads count =
    conflict-by plan heads (first (λ p. is_some (conflict_of plan heads p)) (phases plan)) count
    (λ p e. first-up plan (λ q. is_some (conflict_of plan heads q)) p count e)

red-up : (plan : Plan) (before after : Heads) → plan.phase_count ≡ 16 → IsFound (green_to_red plan before after)
unfolding green_to_red
red-up plan before after count = go (first (goes_red before after) (phases plan)) refl
  where
    go : (o : Option ℕ) → first (goes_red before after) (phases plan) ≡ o → IsFound (option_map (λ p. GreenToRed p) o)
    go None e = tt
    go (Some p) e = first-up plan (goes_red before after) p count e

judged-up : (plan : Plan) (before after : Heads) → plan.phase_count ≡ 16 → IsFound (judge plan before after)
judged-up plan before after count =
    found-or (conflict plan after) (green_to_red plan before after) (conflict-up plan after count) (red-up plan before after count)

-- the trip at this tick number, if there is one
abbrev pub tripped-at : ℕ → Option Trip → Option Tripped
tripped-at now o = option_map (λ cause. record { cause = cause; tick = now }) o

trip-is : (now : ℕ) (o : Option Trip) → IsFound o → IsTrip now (tripped-at now o)
trip-is now None h = tt
trip-is now (Some t) h = (h, omega arith)

pub judged-trip : (plan : Plan) (before after : Heads) (now : ℕ) → plan.phase_count ≡ 16 → IsTrip now (tripped-at now (judge plan before after))
judged-trip plan before after now count = trip-is now (judge plan before after) (judged-up plan before after count)

-- timers are read at this tick number whether or not it tripped
pub clock-now : (now : ℕ) (o : Option Trip) → clock_at now (tripped-at now o) ≡ now
clock-now now None = refl
clock-now now (Some t) = refl

-- in a controller that has tripped the clock rests
pub clock-stands : (m n : ℕ) (o : Option Tripped) → is_some o ≡ true → clock_at m o ≡ clock_at n o
clock-stands m n None h = cc
clock-stands m n (Some t) h = refl

pub clock-runs : (n : ℕ) (o : Option Tripped) → is_some o ≡ false → clock_at n o ≡ n
clock-runs n None h = refl
clock-runs n (Some t) h = cc

pub trip-stays : (m n : ℕ) (o : Option Tripped) → m ≤ n → IsTrip m o → IsTrip n o
trip-stays m n None few h = tt
trip-stays m n (Some t) few h = (h.0, omega (arith, few, h.1))
