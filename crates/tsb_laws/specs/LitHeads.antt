-- Lit heads: those that give right of way. What may change them, and how they turn red. Each law here is the contract of
-- a function in src/heads.rt, and proved there. Times are in tenths of a second, which are ticks.
use Rattle.std.specs.Prelude.{◌≡◌, ℕ, ◌≤◌, Bool, true, false, List, ◌∷◌, None, ◌⊎◌}
use Rattle.tsb_step.specs.tsb_types.declared.lamp.Aspect.{Aspect}
use Rattle.tsb_step.specs.tsb_types.declared.lamp.Aspect.TheVariants as aspects
use Rattle.tsb_step.specs.tsb_types.declared.lamp.Aspect.TheVariants.{Red}
use Rattle.tsb_step.specs.tsb_plan.Parts.{is_arrow, is_minus_green_yellow}
use Rattle.tsb_step.specs.tsb_plan.Plan.{Plan}
use Rattle.tsb_step.specs.tsb_heads.Heads.{Heads}
use Rattle.tsb_step.specs.tsb_heads.Monitoring.{gives_way, lets_walk}
use Rattle.tsb_step.specs.declared.inputs.Input.{Input}
use Rattle.tsb_step.specs.State.{State}
use Rattle.tsb_step.specs.Signs.{display}
use Rattle.tsb_step.specs.Step.{step, verdict}
use Rattle.tsb_step.specs.Runs.{replay}
use Rattle.tsb_step.specs.Laws.{OfEveryRun}
use Rattle.tsb_step.specs.TimeLaws.{OfEveryUntrippedRun, held_for, is_tick, is_yellow_head}

-- ## What changes a lit head

-- the head of an overlap lets traffic go: green, yellow or flashing yellow
abbrev pub is_lit : Aspect → Bool
is_lit aspects.Green = true
is_lit aspects.Yellow = true
is_lit aspects.FlashingYellow = true
is_lit aspects.Dark = false
is_lit aspects.Red = false
is_lit aspects.FlashingRed = false

-- each head with right of way shows the same: of a phase in green or yellow, of pedestrians in walk or clearance, of an
-- overlap in green, yellow or flashing yellow
pub record KeepsLitHeads (before after : Heads) : Type 0 where
  pub vehicle : (p : ℕ) → gives_way (before.vehicle p) ≡ true → after.vehicle p ≡ before.vehicle p
  pub pedestrian : (p : ℕ) → lets_walk (before.pedestrian p) ≡ true → after.pedestrian p ≡ before.pedestrian p
  pub overlap : (o : ℕ) → is_lit (before.overlap o) ≡ true → after.overlap o ≡ before.overlap o

-- Only a tick, a trip and the reset of a trip change a lit head: an input that is taken, is no tick and leaves the trip
-- as it was, or none, keeps each.
abbrev pub OthersKeepLitHeads : Type 0
OthersKeepLitHeads = OfEveryRun (λ s. (i : Input) → is_tick i ≡ false → verdict s i ≡ None → (step s i).trip ≡ s.trip →
    KeepsLitHeads (display s) (display (step s i)))

-- ## How a lit head turns red

-- it stays lit over the input, or the input is a tick that turns it red, and it has shown yellow for the last 30 ticks,
-- that one included
abbrev pub StaysOrClears : (State → Aspect) → Plan → List Input → Input → Type 0
StaysOrClears head plan is i =
    (gives_way (head (replay plan (i ∷ is))) ≡ true)
    ⊎ ((is_tick i ≡ true) × (head (replay plan (i ∷ is)) ≡ Red) × (29 ≤ held_for (λ s. is_yellow_head (head s)) plan is))

-- So it is of the head of a phase over inputs of every kind that are taken, where the controller has not tripped.
abbrev pub LitPhasesClearInYellow : Type 0
LitPhasesClearInYellow = OfEveryUntrippedRun (λ plan is. (i : Input) (p : ℕ) → verdict (replay plan is) i ≡ None →
    (replay plan (i ∷ is)).trip ≡ None → gives_way ((display (replay plan is)).vehicle p) ≡ true →
    StaysOrClears (λ s. (display s).vehicle p) plan is i)

-- And of the head of an overlap that is neither of type minusGreenYellow nor an arrow. The law of arrows is in Arrows.
abbrev pub LitOverlapsClearInYellow : Type 0
LitOverlapsClearInYellow = OfEveryUntrippedRun (λ plan is. (i : Input) (o : ℕ) → verdict (replay plan is) i ≡ None →
    (replay plan (i ∷ is)).trip ≡ None → is_minus_green_yellow (replay plan is).plan o ≡ false →
    is_arrow (replay plan is).plan o ≡ false → gives_way ((display (replay plan is)).overlap o) ≡ true → StaysOrClears (λ s. (display s).overlap o) plan is i)
