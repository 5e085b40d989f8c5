-- What an input does to the phases and the tick number, and how what has held since a moment goes on from input to input.
use Rattle.std.proofs.Common.{◌≡◌, ℕ, Bool, true, false, if◌then◌else◌, List, [], ◌∷◌, ◌++◌, Option, None, is_some, refl, ap}
use Rattle.std.proofs.lemmas.Bool.{true≢false}
use Rattle.std.proofs.Math.Bool.{and-false}
use Rattle.tsb_step.specs.tsb_types.declared.lamp.Lamp.{Lamp}
use Rattle.tsb_step.specs.tsb_types.declared.row.Row.{Row}
use Rattle.tsb_step.specs.tsb_plan.Plan.{Plan}
use Rattle.tsb_step.specs.tsb_phase.Phase.{Phase}
use Rattle.tsb_step.specs.tsb_ring.Rings as rings
use Rattle.tsb_step.specs.tsb_ring.Rings.{Ring}
use Rattle.tsb_step.specs.tsb_transact.Calls as desk
use Rattle.tsb_step.specs.tsb_transact.Commit as commit
use Rattle.tsb_step.specs.declared.inputs.Input.{Input}
use Rattle.tsb_step.specs.declared.inputs.Input.TheVariants as inputs
use Rattle.tsb_step.specs.declared.inputs.Input.TheVariants.{Tick}
use Rattle.tsb_step.specs.State.{State, restarted, interval, pedestrian_part}
use Rattle.tsb_step.specs.Tick.{next}
use Rattle.tsb_step.specs.Signs.{watched}
use Rattle.tsb_step.specs.Step.{with_lamp, reset, committed, step, kind_of}
use Rattle.tsb_step.specs.Runs.{replay, AreTaken}
use Rattle.tsb_step.specs.Past.{ticks_of}
use Rattle.tsb_step.proofs.ClearLemmas.{phases_then}
use Rattle.tsb_laws.specs.Stretches.{IsUntripped, has_held_since, due}

-- ## Along a stretch

pub dark_now : (plan : Plan) (is later : List Input) → IsUntripped plan is later → (replay plan (later ++ is)).trip ≡ None
dark_now plan is [] h = h
dark_now plan is (i ∷ later) h = h.1

pub taken_before : (plan : Plan) (is later : List Input) → AreTaken plan (later ++ is) → AreTaken plan is
taken_before plan is [] h = h
taken_before plan is (i ∷ later) h = taken_before plan is later h.0

pub since_on : (test : State → Bool) (plan : Plan) (is later : List Input) (i : Input) → test (replay plan (i ∷ (later ++ is))) ≡ true →
    has_held_since test plan is later ≡ true → has_held_since test plan is (i ∷ later) ≡ true
since_on test plan is later i now h = rw (now, h) refl

pub since_off : (test : State → Bool) (plan : Plan) (is later : List Input) (i : Input) → test (replay plan (i ∷ (later ++ is))) ≡ false →
    has_held_since test plan is (i ∷ later) ≡ false
since_off test plan is later i now = rw now refl

pub since_gone : (test : State → Bool) (plan : Plan) (is later : List Input) (i : Input) → has_held_since test plan is later ≡ false →
    has_held_since test plan is (i ∷ later) ≡ false
since_gone test plan is later i h = rw (h, and-false) refl

pub due_now : (test : State → Bool) (time : State → Input → ℕ) (plan : Plan) (is later : List Input) (i : Input) →
    has_held_since test plan is later ≡ true → due test time plan is (i ∷ later) ≡ time (replay plan (later ++ is)) i
due_now test time plan is later i h = rw h refl

pub due_before : (test : State → Bool) (time : State → Input → ℕ) (plan : Plan) (is later : List Input) (i : Input) →
    has_held_since test plan is later ≡ false → due test time plan is (i ∷ later) ≡ due test time plan is later
due_before test time plan is later i h = rw h refl

-- ## An input that is no tick

pub record IsSame (s after : State) : Type 0 where
  pub interval : (p : ℕ) → interval after p ≡ interval s p
  pub part : (p : ℕ) → pedestrian_part after p ≡ pedestrian_part s p
  pub now : after.now ≡ s.now
  pub commitment : (r : Ring) → after.rings.commitment r ≡ s.rings.commitment r
  pub crossing : after.rings.crossing ≡ s.rings.crossing
  pub side : after.rings.side ≡ s.rings.side
  pub overlaps : after.overlaps ≡ s.overlaps

lit_same : (s : State) (lamp : Option Lamp) → IsSame s (with_lamp lamp s)
unfolding watched
lit_same s lamp = go (is_some s.trip)
  where
    go : (b : Bool) → IsSame s (if b then record s { lamp = lamp } else watched s (record s { lamp = lamp }))
    go true = record { interval = λ p. refl; part = λ p. refl; now = refl; commitment = λ r. refl; crossing = refl; side = refl; overlaps = refl }
    go false = record { interval = λ p. refl; part = λ p. refl; now = refl; commitment = λ r. refl; crossing = refl; side = refl; overlaps = refl }

reset_same : (s : State) → s.trip ≡ None → IsSame s (reset s)
reset_same s dark = go (is_some s.trip) (ap is_some dark)
  where
    go : (b : Bool) → b ≡ false → IsSame s (if b then restarted s else s)
    go true h = absurd (true≢false h)
    go false h = record { interval = λ p. refl; part = λ p. refl; now = refl; commitment = λ r. refl; crossing = refl; side = refl; overlaps = refl }

committed_same : (s : State) → IsSame s (committed s)
committed_same s = go (commit.forgets_last_phases s.plan s.desk.edits)
  where
    go : (b : Bool) → IsSame s (record s {
      plan = desk.committed_plan s.plan s.desk;
      desk = desk.after_commit;
      rings = if b then rings.forgotten s.rings else s.rings;
    })
    go true = record { interval = λ p. refl; part = λ p. refl; now = refl; commitment = λ r. refl; crossing = refl; side = refl; overlaps = refl }
    go false = record { interval = λ p. refl; part = λ p. refl; now = refl; commitment = λ r. refl; crossing = refl; side = refl; overlaps = refl }

-- an input is a tick, or leaves intervals, parts and the tick number
pub data Goes (s : State) (i : Input) : Type 0 where
  ticks : (row : Row) → i ≡ Tick row → Goes s i
  stays : ticks_of (kind_of i) ≡ 0 → IsSame s (step s i) → Goes s i

pub goes : (s : State) (i : Input) → s.trip ≡ None → Goes s i
unfolding step
goes s (inputs.Tick row) dark = ticks row refl
goes s (inputs.Fault lamp) dark = stays refl (lit_same s lamp)
goes s inputs.Reset dark = stays refl (reset_same s dark)
goes s (inputs.Commit station) dark = stays refl (committed_same s)
goes s i dark = stays refl (record { interval = λ p. refl; part = λ p. refl; now = refl; commitment = λ r. refl; crossing = refl; side = refl; overlaps = refl })

-- ## Phases after a tick

pub at_next : (s : State) (row : Row) (p : ℕ) → s.trip ≡ None → interval (step s (Tick row)) p ≡ interval (next s row) p
at_next s row p dark = ap (λ (f : ℕ → Phase). (f p).interval) (phases_then s row dark)
