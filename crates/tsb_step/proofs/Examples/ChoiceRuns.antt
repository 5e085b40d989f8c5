-- Ticks in which a preempt chooses anew, and mistakes that the laws of commitments refuse. The plan is the built-in one with
-- the option of preempt 2, which wants 4 and 7. Phases 2 and 6 clear; overlap 1 includes 1 and 2.
use Rattle.std.specs.Prelude.{◌≡◌, ℕ, true, [], ◌∷◌, Some, None, refl}
use Rattle.tsb_types.specs.declared.interval.Interval.TheVariants.{RedClear}
use Rattle.tsb_types.specs.declared.lamp.Aspect.TheVariants as aspects
use Rattle.tsb_types.specs.declared.row.Row.{Row}
use Rattle.tsb_objects.specs.tsb_plan.declared.object.Object.TheVariants.{PreemptChoosesAnew}
use Rattle.tsb_objects.specs.tsb_plan.Plan.{with_values}
use Rattle.tsb_objects.specs.tsb_plan.Quad.{quad}
use Rattle.tsb_heads.specs.Overlaps.{overlap_head}
use Rattle.tsb_ring.specs.GivenUp.{given_up}
use Rattle.tsb_ring.specs.Rings as rings
use Rattle.tsb_ring.specs.Rings.{Ring1, Ring2}
use Rattle.tsb_ring.proofs.Examples.Scenes.{both}
use Rattle.tsb_step.specs.State.{State, interval}
use Rattle.tsb_step.specs.Signs.{shown, display}
use Rattle.tsb_step.specs.Tick.{target, must_end, after_moves}
use Rattle.tsb_step.proofs.Examples.Scenes.{opened, after, preempt, clearing, these, all_red, red}

-- ## A crossing to 3 and 8, with this value of preemptChoosesAnew

abbrev pub crosses : ℕ → State
crosses option = record red {
  plan = with_values quad ((PreemptChoosesAnew, 2, option) ∷ []);
  phases = these (2 ∷ 6 ∷ []) (clearing 5) all_red;
  rings = record { last = both (Some 2) (Some 6); commitment = both (Some 3) (Some 8); side = 1; crossing = Some 2 };
}

gives_3_up : (after (crosses 1) (preempt 2)).rings.commitment Ring1 ≡ None
unfolding opened
gives_3_up = refl

gives_8_up : (after (crosses 1) (preempt 2)).rings.commitment Ring2 ≡ None
unfolding opened
gives_8_up = refl

ends_the_crossing : (after (crosses 1) (preempt 2)).rings.crossing ≡ None
unfolding opened
ends_the_crossing = refl

clears_on : interval (after (crosses 1) (preempt 2)) 2 ≡ RedClear
unfolding opened
clears_on = refl

-- without the option all stays
keeps_3 : (after (crosses 0) (preempt 2)).rings.commitment Ring1 ≡ Some 3
unfolding opened
keeps_3 = refl

-- ## A ring that is committed to what is wanted, on the side that is served

-- 3 and 7 clear for 4 and 8
abbrev pub to_4_and_8 : State
to_4_and_8 = record red {
  plan = with_values quad ((PreemptChoosesAnew, 2, 1) ∷ []);
  phases = these (3 ∷ 7 ∷ []) (clearing 5) all_red;
  rings = record { last = both (Some 3) (Some 7); commitment = both (Some 4) (Some 8); side = 2; crossing = None };
}

chooses_anew : (after to_4_and_8 (preempt 2)).rings.commitment Ring2 ≡ None
unfolding opened
chooses_anew = refl

keeps_4 : (after to_4_and_8 (preempt 2)).rings.commitment Ring1 ≡ Some 4
unfolding opened
keeps_4 = refl

-- ## An overlap that lasts: 2 clears for 1

abbrev pub lasts : State
lasts = record red {
  plan = with_values quad ((PreemptChoosesAnew, 2, 1) ∷ []);
  phases = these (2 ∷ 6 ∷ []) (clearing 5) all_red;
  rings = record { last = both (Some 2) (Some 6); commitment = both (Some 1) None; side = 1; crossing = None };
}

keeps_1 : (after lasts (preempt 2)).rings.commitment Ring1 ≡ Some 1
unfolding opened
keeps_1 = refl

shows_green : (display (after lasts (preempt 2))).overlap 1 ≡ aspects.Green
unfolding opened
shows_green = refl

-- ## Rings that give up though an overlap lasts

abbrev pub gives_up_always : State → Row → State
gives_up_always s row = record (after_moves s row) { rings = given_up s.plan (target s row) (after_moves s row).rings }

would_show_red : overlap_head lasts.plan (shown (gives_up_always lasts (preempt 2))) 1 ≡ aspects.Red
unfolding opened
would_show_red = refl

-- ## Rings that give nothing up

abbrev pub acts_alone : State → Row → rings.State
acts_alone s row = (after_moves s row).rings

is_unwanted : must_end (crosses 1) (preempt 2) 3 ≡ true
unfolding opened
is_unwanted = refl

would_keep_3 : (acts_alone (crosses 1) (preempt 2)).commitment Ring1 ≡ Some 3
unfolding opened
would_keep_3 = refl
