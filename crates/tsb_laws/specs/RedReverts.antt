-- Red revert: what lies between the yellow of a phase and the next tick that starts it. The law here is the contract of a
-- function in src/safety.rt, and proved there. Times are in tenths of a second, which are ticks.
use Rattle.std.specs.Prelude.{◌≡◌, ℕ, ◌+◌, ◌≤◌, Bool, true, not, ◌||◌, List, ◌∷◌, ◌++◌}
use Rattle.tsb_step.specs.tsb_types.declared.interval.Interval.TheVariants.{Yellow}
use Rattle.tsb_step.specs.tsb_types.declared.row.Row.{Row}
use Rattle.tsb_step.specs.tsb_plan.Plan.{Plan, is_enabled, red_revert}
use Rattle.tsb_step.specs.tsb_heads.Monitoring.{is_red}
use Rattle.tsb_step.specs.declared.inputs.Input.{Input}
use Rattle.tsb_step.specs.declared.inputs.Input.TheVariants.{Tick}
use Rattle.tsb_step.specs.State.{State, interval}
use Rattle.tsb_step.specs.Signs.{display}
use Rattle.tsb_step.specs.Runs.{replay, AreTaken}
use Rattle.tsb_step.specs.Laws.{IsConsistent}
use Rattle.tsb_laws.specs.Stretches.{IsUntripped, has_held_since, StartsGreen}

-- p was Yellow after the inputs `base`; the tick `row`, after the inputs `later` besides, starts it. The controller has
-- not tripped between. So it is of each start of a phase that was Yellow since power-up, or since the last reset of a
-- trip.
pub record StartsAgain (plan : Plan) (base later : List Input) (row : Row) (p : ℕ) : Type 0 where
  pub was_yellow : interval (replay plan base) p ≡ Yellow
  pub untripped : IsUntripped plan base later
  pub started : StartsGreen plan (later ++ base) row p

-- the head of p is red, or p is not enabled
abbrev pub is_red_or_off : ℕ → State → Bool
is_red_or_off p s = is_red ((display s).vehicle p) || not (is_enabled s.plan p)

-- The last yellow of p ended in the tick `last`, after the inputs `older`, and not in a later one: from then on its head
-- was red, or it was not enabled. Between that tick and the one that starts p lies at least its red revert: the larger
-- of its own and the unit's, by the plan in effect in the tick that starts it.
pub record HasReverted (plan : Plan) (base later : List Input) (row : Row) (p : ℕ) : Type 0 where
  pub older : List Input
  pub last : Row
  pub newer : List Input
  pub parts : later ≡ newer ++ (Tick last ∷ older)
  pub was_yellow : interval (replay plan (older ++ base)) p ≡ Yellow
  pub red_since : has_held_since (is_red_or_off p) plan (Tick last ∷ (older ++ base)) newer ≡ true
  pub waited : (replay plan (Tick last ∷ (older ++ base))).now + red_revert (replay plan (later ++ base)).plan p
      ≤ (replay plan (Tick row ∷ (later ++ base))).now

-- So it is of every start after a yellow, across inputs of every kind. No phase starts in the very tick that ends its yellow.
abbrev pub RedRevertsHold : Type 0
RedRevertsHold = (plan : Plan) (base later : List Input) (row : Row) (p : ℕ) → IsConsistent plan →
    AreTaken plan (later ++ base) → StartsAgain plan base later row p →
    HasReverted plan base later row p
