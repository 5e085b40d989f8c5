-- Plans that differ in some objects alone, and states that differ in such plans alone.
use Rattle.std.specs.Prelude.{◌≡◌, ℕ, Bool, false, if◌then◌else◌}
use Rattle.tsb_step.specs.tsb_plan.declared.object.Object.{Object}
use Rattle.tsb_step.specs.tsb_plan.Plan.{Plan}
use Rattle.tsb_step.specs.State.{State}

-- two plans say the same of each object that does not pass the test
pub record DifferIn (test : Object → Bool) (x y : Plan) : Type 0 where
  pub phase_count : y.phase_count ≡ x.phase_count
  pub side_count : y.side_count ≡ x.side_count
  pub counts : y.counts ≡ x.counts
  pub value : (o : Object) (i : ℕ) → test o ≡ false → y.value o i ≡ x.value o i

-- so do the plans of two states that have all else in common
pub record IsSameBut (test : Object → Bool) (s t : State) : Type 0 where
  pub plan : DifferIn test s.plan t.plan
  pub rest : t ≡ record s { plan = t.plan }

-- the plan with other values of the objects that pass the test
abbrev pub with_others : (Object → Bool) → Plan → (Object → ℕ → ℕ) → Plan
with_others test plan values = record plan { value = λ o i. if test o then values o i else plan.value o i }
