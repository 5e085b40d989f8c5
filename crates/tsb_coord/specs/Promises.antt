-- The contracts of the public calls of `Coord`, clause by clause, over its cells: `old` before a call, `new` after it.
-- docs/work/CONTRACTS.md says which value comes from which layer.
use Rattle.std.specs.Prelude.{◌≡◌, ℕ, ◌≤◌, List, Option, Some, None, Result}
use Rattle.tsb_objects.specs.tsb_types.declared.refusal.Refusal.{Refusal}
use Rattle.tsb_objects.specs.tsb_types.Flow.{answered}
use Rattle.tsb_objects.specs.tsb_types.Sets.{has}
use Rattle.tsb_objects.specs.tsb_plan.Plan.{Plan}
use Rattle.tsb_objects.specs.tsb_plan.Running.{running}
use Rattle.tsb_coord.specs.declared.coordination.Coordination.{Coordination}
use Rattle.tsb_coord.specs.Coordinated.{at_power_up, asks_hold, asks_omit, sequence_now, refusal, selects}
use Rattle.tsb_coord.specs.Correction.{Correction, in_step, forces, lets_walk_again, local_now, selected_correction}
use Rattle.tsb_coord.specs.Cells.{pattern_in, correction_in, start_in}
use Rattle.tsb_coord.specs.Clock.{midnight_at, start_of}

-- `new`, `reset(now)`: no pattern is selected, and nothing is to come into step. At power-up no clock is set, and a
-- reset keeps it
abbrev pub IsAtPowerUp : List ℕ → Type 0
IsAtPowerUp new = (pattern_in new ≡ at_power_up) × (correction_in new ≡ in_step)

-- `orders(now, plan)`: the pattern that runs and its sequence, and of every phase the four orders
pub record AreOrders (now : ℕ) (plan : Plan) (row : List ℕ) (result : Coordination) : Type 0 where
  pub runs : result.runs ≡ running plan (pattern_in row)
  pub sequence : result.sequence ≡ sequence_now plan (pattern_in row)
  pub hold : (p : ℕ) → 1 ≤ p → p ≤ 16 → has result.hold p ≡ asks_hold plan (pattern_in row) p
  pub forced : (p : ℕ) → 1 ≤ p → p ≤ 16 → has result.forced p ≡ forces plan (pattern_in row) (correction_in row) now p
  pub recycle : (p : ℕ) → 1 ≤ p → p ≤ 16 → has result.recycle p ≡ lets_walk_again plan (pattern_in row) (correction_in row) now p
  pub omit : (p : ℕ) → 1 ≤ p → p ≤ 16 → has result.omit p ≡ asks_omit plan (pattern_in row) p

-- `set_pattern(n, now, plan)`, clause `refused`: it answers the refusal, if there is one
abbrev pub IsAnswered : ℕ → Plan → Result (Unit {0}) Refusal → Type 0
IsAnswered n plan result = result ≡ answered (refusal plan n)

-- clause `selected`: the pattern of that number, where it is not refused; else all is as it was
abbrev pub selected_after : Option Refusal → ℕ → Option ℕ → Option ℕ
selected_after None n was = selects n
selected_after (Some r) n was = was

-- its local counter goes on from that of the old pattern, or is in step at once; or all is as it was
abbrev pub correction_after : Option Refusal → Plan → ℕ → ℕ → List ℕ → Correction
correction_after None plan now n old =
    selected_correction plan (selects n) now (midnight_at (start_in old) now) (local_now plan (pattern_in old) (correction_in old) now)
correction_after (Some r) plan now n old = correction_in old

-- the cells say this after the call, refused or not
pub record IsSelected (n now : ℕ) (plan : Plan) (old new : List ℕ) : Type 0 where
  pub pattern : pattern_in new ≡ selected_after (refusal plan n) n (pattern_in old)
  pub correction : correction_in new ≡ correction_after (refusal plan n) plan now n old
  pub start : start_in new ≡ start_in old

-- `set_clock(moment, now, plan)`: tick number `now` is at this moment. The pattern that is selected stays so, and its
-- local counter comes into step with the new midnight, as where it is selected
pub record IsClocked (moment now : ℕ) (plan : Plan) (old new : List ℕ) : Type 0 where
  pub pattern : pattern_in new ≡ pattern_in old
  pub correction : correction_in new
      ≡ selected_correction plan (pattern_in old) now (midnight_at (Some (start_of moment now)) now) (local_now plan (pattern_in old) (correction_in old) now)
  pub start : start_in new ≡ Some (start_of moment now)

-- `local(now, plan)`: the local counter at tick number `now`, which goes on while tripped, or `None` in free operation.
-- So `now` is here the tick number itself, also of a bench that has tripped, and not the tick of the trip.
abbrev pub TellsLocal : ℕ → Plan → List ℕ → Option ℕ → Type 0
TellsLocal now plan row result = result ≡ local_now plan (pattern_in row) (correction_in row) now

-- `pattern()`: the pattern that is selected
abbrev pub TellsPattern : List ℕ → Option ℕ → Type 0
TellsPattern row result = result ≡ pattern_in row
