-- The laws of runs, said of one run.
use Rattle.std.proofs.Common.{◌≡◌, ℕ, zero, suc, ◌≤◌, List, [], ◌∷◌, drop, sym, subst, arith}
use Rattle.tsb_step.specs.tsb_plan.Plan.{Plan}
use Rattle.tsb_step.specs.declared.inputs.Input.{Input}
use Rattle.tsb_step.specs.Backed.{AreBacked}
use Rattle.tsb_step.specs.Good.{IsGood}
use Rattle.tsb_step.specs.Laws.{IsConsistent}
use Rattle.tsb_step.specs.Runs.{replay, AreTaken}
use Rattle.tsb_step.specs.State.{State}
use Rattle.tsb_step.proofs.ClearLemmas.{clears_in_time, clears_at_zero, clears_with_its_split}
use Rattle.tsb_step.proofs.DisplayLemmas.{display_is_safe}
use Rattle.tsb_step.proofs.EndLemmas.{ends_in_time}
use Rattle.tsb_step.proofs.FieldLemmas.{fields_are_quiet}
use Rattle.tsb_step.proofs.BackedLemmas.{backed_run}
use Rattle.tsb_step.proofs.GoodLemmas.{good_run}
use Rattle.tsb_step.proofs.GiveUpHeadLemmas.{shows_the_same, wants_commitments}
use Rattle.tsb_step.proofs.HeldLemmas.{has_held}
use Rattle.tsb_step.proofs.OverlapRunLemmas.{overlaps_clear}
use Rattle.tsb_step.proofs.RestLemmas.{rests_run}
use Rattle.tsb_step.proofs.RevertLemmas.{starts_after_red_revert}
use Rattle.tsb_step.proofs.SafeLemmas.{served_together, starts_waiting, serves_preempt}
use Rattle.tsb_step.proofs.SideRunLemmas.{sided_run}
use Rattle.tsb_step.proofs.StandLemmas.{stands_in_runs}
use Rattle.tsb_step.proofs.TellLemmas.{timers_tell_time}
use Rattle.tsb_step.proofs.TripLemmas.{faults_alone_trip}
use Rattle.tsb_step.proofs.WaitKeepLemmas.{kept-next}
use Rattle.tsb_step.proofs.YellowLemmas.{clears_in_yellow}
use Rattle.tsb_laws.specs.PlayLaws.{KeepsLaws}
use Rattle.tsb_laws.specs.PlayRecords.{KeepsRecords}
use Rattle.tsb_laws.specs.Runs.{IsHeld, IsRun, AreTyped}
use Rattle.tsb_laws.proofs.arrows.ArrowRunLemmas.{arrow_goes, idle_unlit, may_flash, protected, timed_clears}
use Rattle.tsb_laws.proofs.arrows.CardLemmas.{permits_lit}
use Rattle.tsb_laws.proofs.options.PlainRunLemmas.{runs_agree, shows_agree}
use Rattle.tsb_laws.proofs.heads.ClearLemmas.{phase_clears, overlap_clears}
use Rattle.tsb_laws.proofs.heads.LitLemmas.{keeps_lit_heads}
use Rattle.tsb_laws.proofs.operation.step.CalmLemmas.{calm_run}
use Rattle.tsb_laws.proofs.operation.green.GreenEndLemmas.{ends_for_a_reason}
use Rattle.tsb_laws.proofs.operation.calls.KeptCallLemmas.{remembers, vehicles_stand, pedestrians_stand}
use Rattle.tsb_laws.proofs.operation.overlap.OverlapPhaseLemmas.{goes_with_phases}
use Rattle.tsb_laws.proofs.operation.calls.CalledStartLemmas.{enters_by_call}
use Rattle.tsb_laws.proofs.operation.preempt.PreemptEntryLemmas.{lets_in_its_own}
use Rattle.tsb_laws.proofs.operation.preempt.PreemptTurnLemmas.{gives_way, ends_from}
use Rattle.tsb_laws.proofs.operation.green.PressedRunLemmas.{pressed_may_end}
use Rattle.tsb_laws.proofs.operation.green.RunningMaximumLemmas.{bounded, moves_by_a_step, others_leave_it}
use Rattle.tsb_laws.proofs.operation.calls.FreeRunLemmas.{comes_in_time, begins_in_time, served_in_time}
use Rattle.tsb_laws.proofs.operation.preempt.ChosenStageLemmas.{chosen_stages, chosen_dwells}
use Rattle.tsb_laws.proofs.operation.preempt.StageRunLemmas.{stages_reached, exits_end}
use Rattle.tsb_laws.proofs.operation.preempt.StageServiceLemmas.{dwells_reached}
use Rattle.tsb_laws.proofs.operation.preempt.UnwantedGreenLemmas.{waits_or_ends}
use Rattle.tsb_laws.proofs.operation.preempt.WantedPhaseLemmas.{wanted_starts}
use Rattle.tsb_laws.proofs.operation.pattern.CoordinatedCallLemmas.{awaited}
use Rattle.tsb_laws.proofs.operation.pattern.CoordinatedInstantLemmas.{instants_come}
use Rattle.tsb_laws.proofs.operation.pattern.CoordinatedRunLemmas.{forced_may_end}
use Rattle.tsb_laws.proofs.operation.pattern.SelectionLemmas.{selected_in_step, once_so, selections_go_on}
use Rattle.tsb_laws.proofs.operation.pattern.ComingLemmas.{come_into_step}
use Rattle.tsb_laws.proofs.operation.barrier.CoordinatedBarrierLemmas.{makes_way_or_kept}
use Rattle.tsb_laws.proofs.operation.pattern.LateGreenLemmas.{late_is_ready, late_may_end}
use Rattle.tsb_laws.proofs.operation.pattern.PatternEndLemmas.{floating_is_ready, floating_may_end, maximum_is_ready, maximum_may_end, permitted_is_ready, permitted_may_end}
use Rattle.tsb_laws.proofs.operation.recycle.RecycledRunLemmas.{calls_are_recycled, walk_is_over}
use Rattle.tsb_laws.proofs.operation.pattern.PatternRunLemmas.{served_in_pattern, coordinated_in_time}
use Rattle.tsb_laws.proofs.safety.AllRedLemmas.{all_red_ends}
use Rattle.tsb_laws.proofs.safety.CoordinationLemmas.{ends_by_force_off, omits_hold}
use Rattle.tsb_laws.proofs.safety.CrossingLemmas.{completes_in_time}
use Rattle.tsb_laws.proofs.safety.DueLemmas.{count_run}
use Rattle.tsb_laws.proofs.safety.EnabledLemmas.{enabled_run}
use Rattle.tsb_laws.proofs.safety.IntergreenLemmas.{has_cleared}
use Rattle.tsb_laws.proofs.safety.RevertLemmas.{reverts_hold}
use Rattle.tsb_laws.proofs.safety.ServedLemmas.{are_served}
use Rattle.tsb_laws.proofs.safety.WalkLemmas.{has_walked}
use Rattle.tsb_laws.proofs.way_back.PlanLemmas.{held_in_range}
use Rattle.tsb_laws.proofs.way_back.TimerLemmas.{waiting-not-written}
use Rattle.tsb_laws.proofs.way_back.ToldLemmas.{of-a-run, cells-tell, has-rows, takes-back}

few : (plan : Plan) → IsHeld plan → plan.phase_count ≤ 16
few plan held = rw held.phases (omega arith)

-- ## One run

module _ (plan : Plan) (held : IsHeld plan) where
  laws_of : (is : List Input) → AreTaken plan is → KeepsLaws plan is (replay plan is)
  laws_of is taken = record {
    plans_stay_consistent = good.plan;
    displays_are_safe = display_is_safe (replay plan is) good backed;
    displays_are_safe_together = served_together (replay plan is) good;
    displays_are_safe_walks = good.walks;
    starts_wait = starts_waiting (replay plan is) good;
    preempts_have_phases = serves_preempt (replay plan is) good;
    faults_alone_trip = faults_alone_trip plan is ok taken;
    greens_clear_in_time = λ rows p ends. clears_in_time (replay plan is) rows p good ends;
    coordinated_phases_clear_at_zero = λ rows n p off counted ends. clears_at_zero (replay plan is) rows n p good off counted ends;
    coordinated_phases_clear_at_zero_splits = λ rows n p c off counted ends. clears_with_its_split (replay plan is) rows n p c good off counted ends;
    timers_tell_time = timers_tell_time plan is ok taken;
    ticks_end_in_time = ends_in_time (replay plan is) good;
    starts_after_red_revert = starts_after_red_revert plan is ok taken;
    phases_rest = rests_run plan is;
    commitments_stand_in_runs = stands_in_runs (replay plan is) good;
    commitments_are_wanted = wants_commitments (replay plan is);
    giving_up_shows_nothing = shows_the_same (replay plan is);
    fields_are_safe_unless_tripped = fields_are_quiet plan is ok taken;
    phases_clear_in_yellow = clears_in_yellow plan is ok taken;
    overlaps_clear_in_yellow = overlaps_clear plan is ok taken;
    sides_are_served = sided_run plan is ok taken;
    ended_have_held = has_held plan is ok taken;
    waits_keep_phases = kept-next (replay plan is) good;
    overlaps_are_backed = backed;
    intergreens_hold = λ older later row next p q e x. has_cleared plan older later row next p q ok (rw e at taken) x;
    intergreens_hold_walks = λ older later row next p q e x. has_walked plan older later row next p q ok (rw e at taken) x;
    red_reverts_hold = λ base later row p e x. reverts_hold plan base later row p ok (rw e at taken) x;
    enabled_are_served = record { serves = (enabled_run plan is ok taken).serves; promised = (enabled_run plan is ok taken).promised };
    commitments_are_served = λ older later row p r c e dark none free x. are_served plan older later row p r c ok (few plan held) (rw e at taken) dark none free x;
    crossings_complete = λ older later row d n e dark none free x most.
        completes_in_time plan older later row d n ok (few plan held) (rw e at taken) dark none free x most;
    coordinated_end_by_force_off = λ dark row p ends on none. ends_by_force_off plan is row p ok (few plan held) taken dark ends on none;
    omitted_are_not_served = λ dark row q off none. omits_hold plan is row q ok (few plan held) taken dark off none;
    all_red_ends = λ base later n e dark red wanted most.
        rw e (all_red_ends plan base later n ok (held_in_range plan held) (few plan held) (rw e at taken) dark red wanted most);
    lit_heads_stay = λ i. keeps_lit_heads (replay plan is) i good backed;
    lit_heads_clear_in_yellow = phase_clears plan is ok taken;
    lit_heads_clear_in_yellow_overlaps = overlap_clears plan is ok taken;
    arrows_flash_by_permissions = may_flash (replay plan is) good backed (calm_run plan is ok taken);
    green_arrows_are_protected = protected (replay plan is) good backed;
    arrows_go_with_phases = arrow_goes (replay plan is) good backed;
    timed_overlaps_clear_in_yellow = timed_clears plan is ok taken;
    idle_overlaps_are_unlit = idle_unlit (replay plan is) good backed;
    cards_permit_what_is_lit = permits_lit (replay plan is) good backed;
    calls_are_kept_remembered = λ dark row p. remembers (replay plan is) good row p (rw (count_run plan is) (few plan held)) dark;
    calls_are_kept_vehicles = λ base later p e on was. rw e (vehicles_stand plan base later p ok (rw e at taken) on was);
    calls_are_kept_pedestrians = λ base later p e on was. rw e (pedestrians_stand plan base later p ok (few plan held) (rw e at taken) on was);
    greens_end_for_a_reason = λ dark row p x. ends_for_a_reason plan is row p ok (few plan held) taken dark x;
    overlaps_go_with_phases = goes_with_phases (replay plan is) good backed;
    maximums_move_by_steps_bounded = bounded (replay plan is);
    maximums_move_by_steps = moves_by_a_step (replay plan is) good;
    maximums_move_by_steps_others = others_leave_it (replay plan is);
    preempts_give_way_turns = gives_way (replay plan is);
    preempts_give_way_ends = ends_from (replay plan is);
    preempts_reach_their_stages = λ base later n stage g w c e dark on most. stages_reached plan base later n stage g w c ok (few plan held) (rw e at taken) dark on most;
    preempts_reach_their_stages_exits = λ base later n g w c e dark on most. exits_end plan base later n g w c ok (few plan held) (rw e at taken) dark on most;
    preempts_reach_dwell_in_time = λ older later row n g w c t limit e dark begins on most green due.
        dwells_reached plan older later row n g w c t limit ok (few plan held) (rw e at taken) dark begins on most green due;
    preempts_that_choose_come_sooner = λ base later n stage g w c v e dark chosen on most.
        chosen_stages plan base later n stage g w c v ok (few plan held) (rw e at taken) dark chosen on most;
    preempts_that_choose_come_sooner_dwells = λ older later row n g w c v t limit e dark begins chosen serves most green due.
        chosen_dwells plan older later row n g w c v t limit ok (few plan held) (rw e at taken) dark begins chosen serves most green due;
    crossings_have_no_green = calm_run plan is ok taken;
    unwanted_greens_end = λ dark row n p. waits_or_ends plan is row n p ok (few plan held) taken dark;
    wanted_phases_start = λ dark row n r p. wanted_starts plan is row n r p ok (few plan held) taken dark;
    preempts_let_in_their_own = λ dark row n q on. lets_in_its_own plan is row n q ok taken dark on;
    uncalled_phases_stay = λ dark row q idle. enters_by_call plan is row q ok taken dark idle;
    pressed_greens_may_end = λ base later row p n e dark pressed done long.
        rw e (pressed_may_end plan base later row p n ok (few plan held) (rw e at taken) dark pressed done (rw e at long));
    called_phases_come = λ base later r q k h e dark full takes due waited.
        rw e (comes_in_time plan base later r q k h ok (few plan held) (rw e at taken) dark full takes due waited);
    crossings_begin = λ base later q k h e dark full takes apart waited out.
        rw e (begins_in_time plan base later q k h ok (few plan held) (rw e at taken) dark full takes apart waited out);
    called_phases_are_served = λ base later r q k h e dark full takes own waited.
        rw e (served_in_time plan base later r q k h ok (few plan held) (rw e at taken) dark full takes own waited);
    coordination_goes_on_awaited = λ row c phase held dark. awaited plan is row c ok taken phase held dark;
    coordination_goes_on_instants = λ k p running stepped on. instants_come plan is k p ok taken running stepped on;
    coordination_goes_on_forced = λ base later row p n e dark pressed most long.
        rw e (forced_may_end plan base later row p n ok (few plan held) (rw e at taken) dark pressed most (rw e at long));
    coordination_goes_on_ends = λ dark row r p quiet full own green fit pressed.
        makes_way_or_kept plan is row r p ok (few plan held) taken dark quiet full own green fit pressed;
    counters_are_in_step_selected = λ older later n e begins gone. rw e (selected_in_step plan older later n begins gone);
    counters_are_in_step_stays = once_so (replay plan is);
    counters_are_in_step_comes = λ older later n e come. rw e (come_into_step plan older later n ok (rw e at taken) come);
    selections_go_on = selections_go_on plan is ok taken;
    late_greens_are_ready = λ row p it. late_is_ready plan is row p ok (few plan held) taken it;
    late_greens_are_ready_in_time = λ base later row p n e dark pressed span initial walks long.
        rw e (late_may_end plan base later row p n ok (few plan held) (rw e at taken) dark pressed span initial walks (rw e at long));
    floating_greens_are_ready = λ dark row p it floated. floating_is_ready plan is row p ok (few plan held) taken dark it floated;
    floating_greens_are_ready_in_time = λ base later row p n e dark waited floated.
        rw e (floating_may_end plan base later row p n ok (few plan held) (rw e at taken) dark waited (rw e at floated));
    maximums_end_greens_in_patterns = λ row p it maxed. maximum_is_ready plan is row p ok (few plan held) taken it maxed;
    maximums_end_greens_in_patterns_in_time = λ base later row p n m e dark waited acts within.
        rw e (maximum_may_end plan base later row p n m ok (few plan held) (rw e at taken) dark waited acts within);
    permissive_times_let_calls_in = λ row p it span. permitted_is_ready plan is row p ok (few plan held) taken it span;
    permissive_times_let_calls_in_in_time = λ base later row p n e dark waited span.
        rw e (permitted_may_end plan base later row p n ok (few plan held) (rw e at taken) dark waited span);
    recycled_calls_walk = λ dark row p. calls_are_recycled plan is row p ok (few plan held) taken dark;
    recycled_walks_end_in_time = λ older later row next p e dark walks free comes last.
        rw e (walk_is_over plan older later row next p ok (few plan held) (rw e at taken) dark walks free (rw e at comes) (rw e at last));
    phases_are_served_in_patterns_called = λ base later k j h r c e dark full running stepped own times out.
        rw e (served_in_pattern plan base later k j h r c ok (few plan held) (rw e at taken) dark full running stepped own times out);
    phases_are_served_in_patterns_coordinated = λ base later k j h r c e dark full running stepped own times out.
        rw e (coordinated_in_time plan base later k j h r c ok (few plan held) (rw e at taken) dark full running stepped own times out);
    options_off_run_as_without = runs_agree plan is;
    options_off_run_as_without_shows = shows_agree plan is;
  }
    where
      ok : IsConsistent plan
      ok = held.consistent

      good : IsGood (replay plan is)
      good = good_run plan is held.consistent taken

      backed : AreBacked (replay plan is)
      backed = backed_run plan is held.consistent taken

  pub laws_now : (is : List Input) (s : State) → AreTaken plan is → s ≡ replay plan is → KeepsLaws plan is s
  laws_now is s taken e = subst (KeepsLaws plan is) (sym e) (laws_of is taken)

  records_of_run : (is : List Input) → IsRun plan is → KeepsRecords plan is (replay plan is)
  records_of_run is r = record {
    cells_tell_the_state = cells-tell (replay plan is) (of-a-run plan is r);
    cells_tell_the_state_rows = has-rows plan is r;
    pasts_are_the_run = takes-back plan is r;
    waiting_timers_are_not_written = waiting-not-written plan is r;
  }

  pub records_now : (is : List Input) (s : State) → AreTaken plan is → AreTyped is → s ≡ replay plan is → KeepsRecords plan is s
  records_now is s taken typed e =
      subst (KeepsRecords plan is) (sym e) (records_of_run is (record { plan_held = held; taken = taken; typed = typed }))

-- ## Shorter runs

pub taken_without : (plan : Plan) (k : ℕ) (is : List Input) → AreTaken plan is → AreTaken plan (drop k is)
taken_without plan zero is taken = taken
taken_without plan (suc k) [] taken = taken
taken_without plan (suc k) (i ∷ is) taken = taken_without plan k is taken.0
