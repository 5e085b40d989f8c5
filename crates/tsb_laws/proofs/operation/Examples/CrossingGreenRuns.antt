-- A crossing that begins, and a mistake by which a phase would be Green in it.
use Rattle.std.proofs.Common.{◌≡◌, Bool, true, [], ◌∷◌, Some, None, Option, refl}
use Rattle.tsb_step.specs.tsb_types.Sets.{all_off}
use Rattle.tsb_step.specs.tsb_types.declared.interval.Interval.TheVariants.{Green, Yellow}
use Rattle.tsb_step.specs.tsb_plan.Quad.{quad}
use Rattle.tsb_step.specs.tsb_ring.declared.want.Want.{Want}
use Rattle.tsb_step.specs.tsb_ring.Rings.{Ring1}
use Rattle.tsb_step.specs.tsb_ring.Wants.{want_of}
use Rattle.tsb_step.specs.tsb_ring.Crossings.{wants_cross}
use Rattle.tsb_step.specs.State.{State, interval}
use Rattle.tsb_step.specs.Tick.{rings_given}
use Rattle.tsb_step.proofs.Examples.Scenes.{opened, after, called, resting, short}

-- ## 3 is called, and the greens of 2 and 6 may end

abbrev asked : State
asked = record resting { memories = called (3 ∷ []) }

crosses : (after asked all_off).rings.crossing ≡ Some 2
unfolding opened
crosses = refl

ends_2 : interval (after asked all_off) 2 ≡ Yellow
unfolding opened
ends_2 = refl

-- ## A ring that joins in a crossing before its green is ready

-- 3 is called, and the greens of 2 and 6 are too short to end
abbrev asked_early : State
asked_early = record short { memories = called (3 ∷ []) }

stays_2 : interval (after asked_early all_off) 2 ≡ Green
unfolding opened
stays_2 = refl

does_not_cross : (after asked_early all_off).rings.crossing ≡ None
unfolding opened
does_not_cross = refl

abbrev joins_early : Option Want → Bool
joins_early w = wants_cross w

would_cross : joins_early (want_of quad asked_early.rings (rings_given asked_early all_off) Ring1) ≡ true
unfolding opened
would_cross = refl
