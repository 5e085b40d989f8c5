-- What coordination and preempts order in a tick, and what comes of it, by computing.
use Rattle.std.specs.Prelude.{◌≡◌, ◌==◌, true, false, [], ◌∷◌, map, Some, None, option_map, refl}
use Rattle.tsb_cells.specs.declared.timer.Timer.TheVariants.{Off, On}
use Rattle.tsb_types.specs.declared.interval.Interval.TheVariants.{Red, Green, Yellow}
use Rattle.tsb_types.specs.declared.interval.PedestrianInterval.TheVariants.{DontWalk, Walk}
use Rattle.tsb_types.specs.declared.stage.Stage.TheVariants.{Dwell}
use Rattle.tsb_types.specs.Lists.{run_from}
use Rattle.tsb_types.specs.Sets.{all_off}
use Rattle.tsb_objects.specs.tsb_plan.declared.object.Object.TheVariants.{PhaseMinRecall, PatternCycleTime, PatternSequenceNumber, SplitMode, SequenceData}
use Rattle.tsb_objects.specs.tsb_plan.Plan.{Plan, with_value, with_values}
use Rattle.tsb_objects.specs.tsb_plan.Quad.{quad}
use Rattle.tsb_ring.specs.Rings.{Ring1, Ring2}
use Rattle.tsb_step.specs.State.{State, interval, pedestrian_part}
use Rattle.tsb_step.proofs.Examples.Scenes.{opened, after, preempt, green, these, all_red, called, red, resting, entering, dwelling, coordinated}

-- ## Coordination

-- the force-off instant of 2 in pattern 1 is at 760, of this tick's local counter
is_forced_off : map (λ n. interval (after (coordinated n) all_off) 2) (758 ∷ 759 ∷ 760 ∷ []) ≡ Green ∷ Yellow ∷ Green ∷ []
unfolding opened
is_forced_off = refl

-- a selected pattern that is not used does not run: its coordinated phases have no recall
abbrev pub unused : Plan
unused = with_values quad ((PatternCycleTime, 1, 0) ∷ (PhaseMinRecall, 2, 0) ∷ (PhaseMinRecall, 6, 0) ∷ [])

rests : interval (after (record red { plan = unused; pattern = Some 1 }) all_off) 2 ≡ Red
unfolding opened
rests = refl

-- the sequence in effect is the pattern's: with 2 before 1, ring 1 serves 1 before it crosses to 3
abbrev pub reversed : Plan
reversed = with_values quad
    ((PatternSequenceNumber, 1, 2) ∷ (SequenceData, 33, 2) ∷ (SequenceData, 34, 1) ∷ (SequenceData, 35, 3) ∷ [])

serves_1 : interval (after (record red { plan = reversed; pattern = Some 1; memories = called (1 ∷ 3 ∷ []) }) all_off) 1
    ≡ Green
unfolding opened
serves_1 = refl

-- 8, which is omitted, is neither called nor enters beside 3
abbrev pub omitting : State
omitting = record red { plan = with_value quad SplitMode 8 5; pattern = Some 1; memories = called (3 ∷ 8 ∷ []) }

enters_alone : map (after omitting all_off).rings.commitment (Ring1 ∷ Ring2 ∷ []) ≡ Some 3 ∷ None ∷ []
unfolding opened
enters_alone = refl

-- ## Preempts

-- service begins in the tick of the input
begins : (after resting (preempt 2)).preempts.service
    ≡ Some (record { preempt = 2; stage = Dwell; timer = On 0; stage_timer = Off })
unfolding opened
begins = refl

-- the target is that of this tick: where preempt 1 begins, greens of 20 ticks end for it at once
abbrev pub early : State
early = record red { phases = these (2 ∷ 6 ∷ []) (green 19) all_red }

takes_over : map (after early (preempt 1)).rings.commitment (Ring1 ∷ Ring2 ∷ []) ≡ Some 3 ∷ Some 8 ∷ []
unfolding opened
takes_over = refl

-- a service of 99 ticks is read as one of 100, and ends: each phase that was not Green is called
ends_service : map (λ n. map (after (dwelling n) all_off).memories.vehicle (run_from 1 8)) (98 ∷ 99 ∷ [])
    ≡ map (λ p. false) (run_from 1 8) ∷ (true ∷ true ∷ false ∷ true ∷ true ∷ true ∷ true ∷ false ∷ []) ∷ []
unfolding opened
ends_service = refl

-- and its timer runs on by one until then
serves_on : option_map (λ s. s.timer) (after (dwelling 5) (preempt 1)).preempts.service ≡ Some (On 6)
unfolding opened
serves_on = refl

-- no walk starts in the tick that begins service, and its call stays; in the tick that ends service one does
abbrev pub pressed : State
pressed = record entering { memories = record (called []) { pedestrian = λ p. p == 2 } }

walks_not : pedestrian_part (after pressed (preempt 1)) 2 ≡ DontWalk
unfolding opened
walks_not = refl

stays : (after pressed (preempt 1)).memories.pedestrian 2 ≡ true
unfolding opened
stays = refl

walks_again : pedestrian_part (after (record pressed { preempts = (dwelling 99).preempts }) all_off) 2 ≡ Walk
unfolding opened
walks_again = refl
