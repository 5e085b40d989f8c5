-- What the rings look at in a tick: nothing of phases that are not among 1 to 16. MovesLookAtPhases and
-- NextLooksAtPhases are proved, as the contract of `looks_only_at_its_own` (src/laws.rt).
use Rattle.std.specs.Prelude.{◌≡◌, ℕ, ◌≤◌, Bool, true, Option, Some, None}
use Rattle.tsb_types.specs.Clip.{Agree}
use Rattle.tsb_types.specs.Sets.{is_phase}
use Rattle.tsb_objects.specs.tsb_plan.Plan.{Plan}
use Rattle.tsb_ring.specs.Rings.{Ring, State, Given, in_ring}
use Rattle.tsb_ring.specs.Next.{next}
use Rattle.tsb_ring.specs.Moves.{moves}

-- a plan has 16 phases at most, and a phase of a ring or a commitment is one of them
pub record IsWithin (plan : Plan) (s : State) : Type 0 where
  pub count : plan.phase_count ≤ 16
  pub ringed : (r : Ring) (p : ℕ) → in_ring plan r p ≡ true → is_phase p ≡ true
  pub committed : (r : Ring) (p : ℕ) → s.commitment r ≡ Some p → is_phase p ≡ true

-- two targets, or none, that agree on phases 1 to 16
abbrev pub AgreeOnTargets : Option (ℕ → Bool) → Option (ℕ → Bool) → Type 0
AgreeOnTargets None None = Unit {0}
AgreeOnTargets None (Some u) = ⊥
AgreeOnTargets (Some t) None = ⊥
AgreeOnTargets (Some t) (Some u) = Agree t u

-- two that say the same of phases 1 to 16, and have the same sequence
pub record AgreeOnPhases (f g : Given) : Type 0 where
  pub interval : Agree f.interval g.interval
  pub sequence : (r : Ring) → f.sequence r ≡ g.sequence r
  pub callable : Agree f.callable g.callable
  pub omitted : Agree f.omitted g.omitted
  pub ready : Agree f.ready g.ready
  pub over : Agree f.over g.over
  pub reverted : Agree f.reverted g.reverted
  pub target : AgreeOnTargets f.target g.target

-- The rings look at nothing of other phases: where two agree, the moves are the same, and the rings after them.
abbrev pub MovesLookAtPhases : Type 0
MovesLookAtPhases = (plan : Plan) (s : State) (f g : Given) → IsWithin plan s → AgreeOnPhases f g → moves plan s f ≡ moves plan s g

-- and so the rings after the tick
abbrev pub NextLooksAtPhases : Type 0
NextLooksAtPhases = (plan : Plan) (s : State) (f g : Given) → IsWithin plan s → AgreeOnPhases f g → next plan s f ≡ next plan s g
