-- Mistakes that the laws of called phases refuse, each in the tick in which it is made.
use Rattle.std.proofs.Common.{◌≡◌, ℕ, if◌then◌else◌, List, [], ◌∷◌, Some, None, refl}
use Rattle.tsb_step.specs.tsb_types.Lists.{first, run_from, later, not_later, or_number}
use Rattle.tsb_step.specs.tsb_types.Sets.{all_off}
use Rattle.tsb_step.specs.tsb_types.declared.row.Row.{Row}
use Rattle.tsb_step.specs.tsb_plan.declared.object.Object.TheVariants.{PhaseEnabled, PhaseRing, PhaseSide, SequenceData, PatternCycleTime, PhaseMaximum1, PhaseMaximum2, PhaseYellowChange}
use Rattle.tsb_step.specs.tsb_plan.declared.object.Object.{Object}
use Rattle.tsb_step.specs.tsb_plan.Plan.{Plan, phases, with_values}
use Rattle.tsb_step.specs.tsb_plan.Quad.{quad}
use Rattle.tsb_step.specs.tsb_rules.Rules.{first_broken}
use Rattle.tsb_step.specs.tsb_ring.declared.want.Want.{Want}
use Rattle.tsb_step.specs.tsb_ring.declared.want.Want.TheVariants.{Go, Cross, Rest}
use Rattle.tsb_step.specs.tsb_ring.Crossings.{is_called_on, side_sought}
use Rattle.tsb_step.specs.tsb_ring.Rings as rings
use Rattle.tsb_step.specs.tsb_ring.Rings.{Ring1}
use Rattle.tsb_step.specs.tsb_ring.Wants.{go_or, is_candidate, is_called_elsewhere, want_by_calls}
use Rattle.tsb_step.proofs.tsb_ring.Examples.Scenes.{both}
use Rattle.tsb_step.specs.State.{State}
use Rattle.tsb_step.specs.Tick.{rings_given}
use Rattle.tsb_step.proofs.Examples.Scenes.{opened, green, these, all_red, called, red, resting}

-- ## A ring that crosses the barrier as soon as another side is called

-- 1 and 6 are Green, 2 and 3 are called
abbrev begun : State
begun = record red {
  phases = these (1 ∷ 6 ∷ []) (green 59) all_red;
  memories = called (2 ∷ 3 ∷ []);
  rings = record rings.power_up { last = both (Some 1) (Some 6) };
}

goes_to_2 : want_by_calls quad begun.rings (rings_given begun all_off) Ring1 None ≡ Go 2
unfolding opened
goes_to_2 = refl

abbrev crosses_first : State → Row → Want
crosses_first s row =
    if is_called_elsewhere s.plan s.rings (rings_given s row) then Cross else want_by_calls s.plan s.rings (rings_given s row) Ring1 None

would_cross : crosses_first begun all_off ≡ Cross
unfolding opened
would_cross = refl

-- ## A ring that goes round its order though another side is called

-- 2 and 6 are Green, 1 and 3 are called
abbrev rounded : State
rounded = record resting { memories = called (1 ∷ 3 ∷ []) }

wants_to_cross : want_by_calls quad rounded.rings (rings_given rounded all_off) Ring1 None ≡ Cross
unfolding opened
wants_to_cross = refl

abbrev goes_round : State → Row → Want
goes_round s row =
    go_or (first (is_candidate s.plan s.rings (rings_given s row) Ring1 None) (later (s.rings.last Ring1) ((rings_given s row).sequence Ring1)))
    (go_or (first (is_candidate s.plan s.rings (rings_given s row) Ring1 None) (not_later (s.rings.last Ring1) ((rings_given s row).sequence Ring1)))
    (if is_called_elsewhere s.plan s.rings (rings_given s row) then Cross else Rest))

would_go_to_1 : goes_round rounded all_off ≡ Go 1
unfolding opened
would_go_to_1 = refl

-- ## A crossing that goes to the lowest side that is called

-- phase 9 is on side 3; the patterns are not used
abbrev third_values : List (Object × ℕ × ℕ)
third_values =
    (PhaseEnabled, 9, 1) ∷ (PhaseRing, 9, 1) ∷ (PhaseSide, 9, 3) ∷ (SequenceData, 5, 9) ∷ (PhaseMaximum1, 9, 20) ∷ (PhaseMaximum2, 9, 20) ∷
    (PhaseYellowChange, 9, 30) ∷ (PatternCycleTime, 1, 0) ∷ (PatternCycleTime, 2, 0) ∷ []

unfoldable third : Plan
third = with_values quad third_values

third_breaks_none : first_broken third ≡ None
unfolding opened third
third_breaks_none = refl

-- 4 and 8 of side 2 are Green, 1 of side 1 and 9 of side 3 are called
abbrev between : State
between = record resting {
  plan = third;
  phases = these (4 ∷ 8 ∷ []) (green 59) all_red;
  memories = called (1 ∷ 9 ∷ []);
  rings = record rings.power_up { last = both (Some 4) (Some 8); side = 2 };
}

goes_to_side_3 : side_sought third between.rings (rings_given between all_off) None ≡ 3
unfolding opened third
goes_to_side_3 = refl

abbrev lowest_side : State → Row → ℕ
lowest_side s row = or_number (first (is_called_on s.plan (rings_given s row)) (run_from 1 s.plan.side_count)) s.rings.side

would_go_to_side_1 : lowest_side between all_off ≡ 1
unfolding opened third
would_go_to_side_1 = refl
