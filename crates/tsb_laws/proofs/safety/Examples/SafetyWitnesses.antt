-- A crossing from power-up, computed from its beginning to its end. Runs that meet all premises of a law at once stand in the
-- modules of runs.
use Rattle.std.specs.Prelude.{◌≡◌, true, [], ◌∷◌, Some, None, refl}
use Rattle.tsb_step.specs.tsb_types.Sets.{all_off}
use Rattle.tsb_step.specs.tsb_types.declared.interval.Interval.TheVariants.{Green}
use Rattle.tsb_step.specs.tsb_plan.Quad.{quad}
use Rattle.tsb_step.specs.tsb_ring.Rings.{Ring1}
use Rattle.tsb_step.specs.declared.inputs.Input.TheVariants.{Tick, Switch}
use Rattle.tsb_step.specs.State.{interval}
use Rattle.tsb_step.specs.Runs.{replay}
use Rattle.tsb_step.proofs.Examples.Scenes.{opened}

-- ## A crossing that begins: preempt 1 wants 3 and 8, on the other side than is served at power-up

begins : (replay quad (Tick all_off ∷ Switch 1 true ∷ [])).rings.crossing ≡ Some 2
unfolding opened
begins = refl

commits_to_3 : (replay quad (Tick all_off ∷ Switch 1 true ∷ [])).rings.commitment Ring1 ≡ Some 3
unfolding opened
commits_to_3 = refl

-- no phase is in service, and it is completed one tick later
completes : (replay quad (Tick all_off ∷ Tick all_off ∷ Switch 1 true ∷ [])).rings.crossing ≡ None
unfolding opened
completes = refl

serves_side_2 : (replay quad (Tick all_off ∷ Tick all_off ∷ Switch 1 true ∷ [])).rings.side ≡ 2
unfolding opened
serves_side_2 = refl

starts_3 : interval (replay quad (Tick all_off ∷ Tick all_off ∷ Switch 1 true ∷ [])) 3 ≡ Green
unfolding opened
starts_3 = refl
