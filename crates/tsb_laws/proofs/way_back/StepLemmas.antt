-- Every state of a run is one that the cells of the program can hold.
use Rattle.std.proofs.Common.{◌≡◌, ℕ, ◌+◌, ◌≤◌, ◌<◌, nat_le, Bool, true, false, ◌&&◌, if◌then◌else◌, List, [], ◌∷◌, Option, Some, None, is_some, refl, sym, ap, subst, arith, ◌∙◌}
use Rattle.tsb_step.specs.tsb_types.declared.lamp.Lamp.{Lamp}
use Rattle.tsb_step.specs.tsb_types.declared.row.Row.{Row}
use Rattle.tsb_step.specs.tsb_types.Sets.{is_phase, has_detector}
use Rattle.tsb_step.specs.tsb_plan.declared.object.Object.TheVariants.{PhaseEnabled, VehicleDetectorCallPhase}
use Rattle.tsb_step.specs.tsb_plan.declared.object.ObjectId.{ObjectId}
use Rattle.tsb_step.specs.tsb_plan.Plan.{Plan, is_enabled}
use Rattle.tsb_step.specs.tsb_plan.Parts.{call_phase}
use Rattle.tsb_step.specs.tsb_detect.Laws as detect
use Rattle.tsb_step.specs.tsb_calls.Laws as calls
use Rattle.tsb_step.specs.tsb_phase.Phase as phase
use Rattle.tsb_step.specs.tsb_phase.Moves.{unforced}
use Rattle.tsb_step.specs.tsb_ring.Laws as rings
use Rattle.tsb_step.specs.tsb_ring.Rings as ring
use Rattle.tsb_step.specs.tsb_overlap.Laws as overlaps
use Rattle.tsb_step.specs.tsb_preempt.Laws as preempts
use Rattle.tsb_step.specs.tsb_preempt.Preempts.{is_preempt}
use Rattle.tsb_step.specs.tsb_heads.Monitoring.{judge}
use Rattle.tsb_step.specs.tsb_transact.Desk.{Desk, closed}
use Rattle.tsb_step.specs.tsb_transact.Calls.{stranger_refusal, has_no_room}
use Rattle.tsb_step.specs.tsb_transact.Laws as desk
use Rattle.tsb_step.proofs.tsb_transact.DeskLemmas.{sound-closed, sound-begun, sound-checked, both-none, not-refused, owner-owns}
use Rattle.tsb_step.specs.declared.inputs.Input.{Input}
use Rattle.tsb_step.specs.declared.inputs.Input.TheVariants as inputs
use Rattle.tsb_step.specs.Cells.{clock_at, clock}
use Rattle.tsb_step.specs.Good.{IsGood}
use Rattle.tsb_step.specs.MonitorLaws.{IsUpTo, IsLamp, IsTrip}
use Rattle.tsb_step.specs.Runs.{replay, AreTaken}
use Rattle.tsb_step.specs.Signs.{local, field, watched}
use Rattle.tsb_step.specs.State.{State, Tripped, start, restarted}
use Rattle.tsb_step.specs.Step.{step, verdict, ticked, with_lamp, reset, found}
use Rattle.tsb_step.specs.Tables.{place_refusal}
use Rattle.tsb_step.specs.Tick as tick
use Rattle.tsb_step.specs.Tick.{new_detectors, phases_given, moved, moves, rings_given, calls_given, done, preempts_given, overlaps_given, green_timer}
use Rattle.tsb_step.proofs.EditLemmas.{same_phase_count, same_side_count, same_counts}
use Rattle.tsb_step.proofs.GivenLemmas.{symmetric, given}
use Rattle.tsb_step.proofs.GiveUpLemmas.{by_rings}
use Rattle.tsb_step.proofs.GoodLemmas.{rings_after_moves, good_step, good_run}
use Rattle.tsb_step.proofs.PlaceLemmas.{same_refusal}
use Rattle.tsb_step.proofs.tsb_phase.MoveLemmas.{stays_at_power_up}
use Rattle.tsb_laws.specs.Runs.{IsHeld, IsTyped, AreTyped}
use Rattle.tsb_laws.proofs.safety.LastTickLemmas.{run_early}
use Rattle.tsb_laws.proofs.way_back.PlanLemmas.{bounded-with, is_wide}
use Rattle.tsb_laws.proofs.way_back.DeskLemmas.{sound-set}
use Rattle.tsb_laws.proofs.way_back.CorrectionLemmas.{cycles-within, ahead-selected, ahead-clocked, midnight-selected, midnight-below}
use Rattle.tsb_step.specs.tsb_types.declared.clock_time.TheConstants.{DAY, FIRST_MOMENT}
use Rattle.tsb_step.specs.tsb_types.declared.limits.TheConstants.{TICKS, PREEMPTS}
use Rattle.tsb_step.specs.tsb_coord.Clock.{midnight_at, start_of}
use Rattle.tsb_step.specs.tsb_coord.Coordinated.{selects}
use Rattle.tsb_step.specs.tsb_coord.Laws.{IsStart}
use Rattle.tsb_step.specs.tsb_coord.declared.correction.Correction.{Correction}
use Rattle.tsb_laws.proofs.way_back.DetectLemmas.{detectors-after, detectors-begin}
use Rattle.tsb_laws.proofs.way_back.CallLemmas.{IsSettled, memories-after, memories-begin}
use Rattle.tsb_laws.proofs.way_back.PhaseLemmas.{RunsIn, runs-after, runs-begin, runs-unforced}
use Rattle.tsb_laws.proofs.way_back.RingLemmas.{rings-given, none-started, none-ended, rings-after}
use Rattle.tsb_laws.proofs.way_back.OverlapLemmas.{overlaps-after, overlaps-begin, overlaps-omitted}
use Rattle.tsb_laws.proofs.way_back.PreemptLemmas.{preempts-after, preempts-begin, preempts-reset, preempts-switched}
use Rattle.tsb_laws.proofs.way_back.TripLemmas.{tripped-at, judged-trip, clock-now, clock-stands, clock-runs, trip-stays}

-- ## The layers by a clock

pub record IsIn (c : ℕ) (s : State) : Type 0 where
  pub detectors : detect.AreStatesBy c s.detectors
  pub memories : calls.AreInRange s.memories
  pub phases : (p : ℕ) → RunsIn c (s.phases p)
  pub others : (p : ℕ) → is_phase p ≡ false → s.phases p ≡ phase.at_power_up
  pub rings : rings.IsInRange s.rings
  pub preempts : preempts.IsStateBy c s.preempts
  pub overlaps : overlaps.IsStateBy c s.overlaps s.omitted

-- how the local counter comes into step, and the clock, in the ranges of their cells
pub record IsCounting (c : Correction) (moment : Option ℕ) : Type 0 where
  pub ahead : c.ahead ≤ 2550
  pub midnight : c.midnight < FIRST_MOMENT + DAY
  pub start : IsStart moment

-- the whole state, with what its clock is
pub record IsTold (s : State) : Type 0 where
  pub plan : IsHeld s.plan
  pub desk : desk.IsInRange s.desk
  pub layers : IsIn (clock s) s
  pub counting : IsCounting s.correction s.start_moment
  pub lamp : IsLamp s.lamp
  pub trip : IsTrip s.now s.trip

-- ## A tick

module _ (s : State) (row : Row) (good : IsGood s) (held : IsHeld s.plan) (was : IsIn s.now s) where
  starts-none : (p : ℕ) → is_phase p ≡ false → (moved s row).starts p ≡ false
  unfolding moves rings_given
  starts-none p out =
      none-started s.plan s.rings (rings_given s row) (symmetric s.plan good.plan.rules) good.rings (given s row good) held.phases p out

  ends-none : (p : ℕ) → is_phase p ≡ false → (moved s row).ends p ≡ false
  unfolding moves rings_given
  ends-none p out =
      none-ended s.plan s.rings (rings_given s row) (symmetric s.plan good.plan.rules) good.rings (given s row good) held.phases p out

  enabled-none : (p : ℕ) → is_phase p ≡ false → is_enabled s.plan p ≡ false
  enabled-none p out =
      let off : s.plan.value PhaseEnabled p ≡ 0 = held.consistent.placed PhaseEnabled p (ap (λ (n : ℕ). nat_le 1 p && nat_le p n) held.phases ∙ out) in
      rw off refl

  detectors-next : detect.AreStatesBy (s.now + 1) (new_detectors s row)
  unfolding new_detectors
  detectors-next = detectors-after s.plan s.now (has_detector row.vehicles) (λ d. green_timer s (call_phase s.plan d)) s.detectors was.detectors

  rings-moved : rings.IsInRange (tick.after_moves s row).rings
  unfolding rings_given
  rings-moved =
      rings-after s.plan s.rings (rings_given s row) held (symmetric s.plan good.plan.rules) good.rings (given s row good)
      (λ r p h. ((rings_after_moves s row good).owned r p h).1) was.rings

  rings-next : rings.IsInRange (tick.next s row).rings
  rings-next = by_rings rings.IsInRange s row rings-moved (rings-given s.plan (tick.target s row) (tick.after_moves s row).rings rings-moved)

  settled : IsSettled s.plan (done s row)
  settled = record {
    called = λ d. held.bounded VehicleDetectorCallPhase d;
    enabled = enabled-none;
    starts = starts-none;
    ends = ends-none;
  }

  preempts-few : s.plan.counts.preempts ≤ PREEMPTS
  preempts-few = rw held.counts (omega arith)

  row-none : (n : ℕ) → is_preempt n ≡ false → (preempts_given s row).row n ≡ false
  row-none n out = rw out refl

  pub next-in : IsIn (s.now + 1) (tick.next s row)
  next-in = record {
    detectors = detectors-next;
    memories = memories-after s.plan (calls_given s row) (done s row) s.memories settled was.memories;
    phases = λ p. runs-after s.plan (phases_given s row) (moved s row) p s.now (s.phases p) held.bounded (was.phases p);
    others = λ p out. stays_at_power_up s.plan (phases_given s row) (moved s row) p (s.phases p) (was.others p out) (starts-none p out) (ends-none p out);
    rings = rings-next;
    preempts = preempts-after s.plan (preempts_given s row) s.now s.preempts preempts-few row-none was.preempts;
    overlaps = overlaps-after s.plan (overlaps_given s row) s.overlaps s.omitted s.now held was.overlaps;
  }

-- with another trip, desk, lamp, plan or tick number
in-with : (c : ℕ) (s : State) (now : ℕ) (plan : Plan) (d : Desk) (pattern : Option ℕ) (lamp : Option Lamp) (trip : Option Tripped) → IsIn c s →
    IsIn c (record s { now = now; plan = plan; desk = d; pattern = pattern; lamp = lamp; trip = trip })
in-with c s now plan d pattern lamp trip was = record {
  detectors = was.detectors;
  memories = was.memories;
  phases = was.phases;
  others = was.others;
  rings = was.rings;
  preempts = was.preempts;
  overlaps = was.overlaps;
}

by-clock : (c k : ℕ) (s : State) → c ≡ k → IsIn c s → IsIn k s
by-clock c k s e was = subst (λ (n : ℕ). IsIn n s) e was

-- what the monitor adds
told-watched : (before after : State) → IsHeld after.plan → desk.IsInRange after.desk → IsIn after.now after → IsCounting after.correction after.start_moment → IsLamp after.lamp → IsTold (watched before after)
unfolding watched
told-watched before after held d layers counting lamp = record {
  plan = held;
  desk = d;
  layers = by-clock after.now (clock_at after.now (tripped-at after.now (judge after.plan (field before) (field after)))) _
      (sym (clock-now after.now (judge after.plan (field before) (field after))))
      (in-with after.now after after.now after.plan after.desk after.pattern after.lamp (tripped-at after.now (judge after.plan (field before) (field after))) layers);
  counting = counting;
  lamp = lamp;
  trip = judged-trip after.plan (field before) (field after) after.now held.phases;
}

pub told-ticked : (s : State) (row : Row) → IsGood s → IsTold s → IsTold (ticked row s)
told-ticked s row good told = go (is_some s.trip) refl
  where
    go : (b : Bool) → is_some s.trip ≡ b → IsTold (if b then record s { now = s.now + 1 } else (if b then tick.next s row else watched s (tick.next s row)))
    go true e = record {
      plan = told.plan;
      desk = told.desk;
      layers = by-clock (clock s) (clock_at (s.now + 1) s.trip) _ (clock-stands s.now (s.now + 1) s.trip e)
          (in-with (clock s) s (s.now + 1) s.plan s.desk s.pattern s.lamp s.trip told.layers);
      counting = told.counting;
      lamp = told.lamp;
      trip = trip-stays s.now (s.now + 1) s.trip (omega arith) told.trip;
    }
    go false e =
        told-watched s (tick.next s row) told.plan told.desk
        (next-in s row good told.plan (by-clock (clock s) s.now s (clock-runs s.now s.trip e) told.layers)) told.counting told.lamp

-- ## What the operator does

told-lit : (s : State) (lamp : Option Lamp) → IsLamp lamp → IsTold s → IsTold (with_lamp lamp s)
told-lit s lamp is told = go (is_some s.trip) refl
  where
    go : (b : Bool) → is_some s.trip ≡ b → IsTold (if b then record s { lamp = lamp } else watched s (record s { lamp = lamp }))
    go true e = record {
      plan = told.plan;
      desk = told.desk;
      layers = in-with (clock s) s s.now s.plan s.desk s.pattern lamp s.trip told.layers;
      counting = told.counting;
      lamp = is;
      trip = told.trip;
    }
    go false e =
        told-watched s (record s { lamp = lamp }) told.plan told.desk
        (in-with s.now s s.now s.plan s.desk s.pattern lamp s.trip (by-clock (clock s) s.now s (clock-runs s.now s.trip e) told.layers)) told.counting is

rings-begin : rings.IsInRange ring.power_up
rings-begin = record { last = λ r. tt; commitment = λ r. tt; side = (omega arith, omega arith); crossing = tt }

told-restarted : (s : State) → IsTold s → IsTold (restarted s)
told-restarted s told = record {
  plan = told.plan;
  desk = told.desk;
  layers = record {
    detectors = detectors-begin s.now;
    memories = memories-begin;
    phases = λ p. runs-begin s.now;
    others = λ p out. refl;
    rings = rings-begin;
    preempts = preempts-reset (clock s) s.now s.preempts told.layers.preempts;
    overlaps = overlaps-begin s.now;
  };
  counting = record { ahead = omega arith; midnight = omega arith; start = told.counting.start };
  lamp = tt;
  trip = tt;
}

told-reset : (s : State) → IsTold s → IsTold (reset s)
told-reset s told = go (is_some s.trip)
  where
    go : (b : Bool) → IsTold (if b then restarted s else s)
    go true = told-restarted s told
    go false = told

told-pattern : (s : State) (n : ℕ) → verdict s (inputs.Pattern n) ≡ None → IsTold s → IsTold (step s (inputs.Pattern n))
unfolding step verdict
told-pattern s n allowed told = record {
  plan = told.plan;
  desk = told.desk;
  layers = record {
    detectors = told.layers.detectors;
    memories = told.layers.memories;
    phases = λ p. runs-unforced (clock s) (s.phases p) (told.layers.phases p);
    others = λ p out. ap unforced (told.layers.others p out);
    rings = told.layers.rings;
    preempts = told.layers.preempts;
    overlaps = told.layers.overlaps;
  };
  counting = record {
    ahead = ahead-selected s.plan n s.now (midnight_at s.start_moment s.now) (local s) allowed (cycles-within s.plan told.plan.bounded n);
    midnight = midnight-selected s.plan (selects n) s.now (midnight_at s.start_moment s.now) (local s) (midnight-below s.start_moment s.now);
    start = told.counting.start;
  };
  lamp = told.lamp;
  trip = told.trip;
}

told-clock : (s : State) (m : ℕ) → IsTyped (inputs.Clock m) → s.now ≤ TICKS → IsTold s → IsTold (step s (inputs.Clock m))
unfolding step
told-clock s m typed early told = record {
  plan = told.plan;
  desk = told.desk;
  layers = record {
    detectors = told.layers.detectors;
    memories = told.layers.memories;
    phases = told.layers.phases;
    others = told.layers.others;
    rings = told.layers.rings;
    preempts = told.layers.preempts;
    overlaps = told.layers.overlaps;
  };
  counting = record {
    ahead = ahead-clocked s.plan s.pattern s.correction s.now (midnight_at (Some (start_of m s.now)) s.now) (cycles-within s.plan told.plan.bounded);
    midnight = midnight-selected s.plan s.pattern s.now (midnight_at (Some (start_of m s.now)) s.now) (local s) (midnight-below (Some (start_of m s.now)) s.now);
    start = (let from = typed.0 in let to = typed.1 in (omega (arith, from, early), omega (arith, to)));
  };
  lamp = told.lamp;
  trip = told.trip;
}

told-switch : (s : State) (n : ℕ) (on : Bool) → verdict s (inputs.Switch n on) ≡ None → IsTold s → IsTold (step s (inputs.Switch n on))
unfolding step verdict
told-switch s n on allowed told = record {
  plan = told.plan;
  desk = told.desk;
  layers = record {
    detectors = told.layers.detectors;
    memories = told.layers.memories;
    phases = told.layers.phases;
    others = told.layers.others;
    rings = told.layers.rings;
    preempts = preempts-switched s.plan (clock s) n on s.preempts allowed told.layers.preempts;
    overlaps = told.layers.overlaps;
  };
  counting = told.counting;
  lamp = told.lamp;
  trip = told.trip;
}

told-omit : (s : State) (list : ℕ) → verdict s (inputs.Omit list) ≡ None → IsTold s → IsTold (step s (inputs.Omit list))
unfolding step verdict
told-omit s list allowed told = record {
  plan = told.plan;
  desk = told.desk;
  layers = record {
    detectors = told.layers.detectors;
    memories = told.layers.memories;
    phases = told.layers.phases;
    others = told.layers.others;
    rings = told.layers.rings;
    preempts = told.layers.preempts;
    overlaps = overlaps-omitted (clock s) s.overlaps s.omitted list allowed told.layers.overlaps;
  };
  counting = told.counting;
  lamp = told.lamp;
  trip = told.trip;
}

-- ## The desk

told-desk : (s : State) (d : Desk) → desk.IsInRange d → IsTold s → IsTold (record s { desk = d })
told-desk s d is told = record {
  plan = told.plan;
  desk = is;
  layers = in-with (clock s) s s.now s.plan d s.pattern s.lamp s.trip told.layers;
  counting = told.counting;
  lamp = told.lamp;
  trip = told.trip;
}

desk-closed : desk.IsInRange closed
desk-closed = record { sound = sound-closed; owner = tt }

told-begun : (s : State) (station : ℕ) → IsUpTo 4 station → IsTold s → IsTold (step s (inputs.Begin station))
unfolding step
told-begun s station up told = told-desk s _ (record { sound = sound-begun station; owner = up }) told

told-set : (s : State) (station : ℕ) (id : ObjectId) (v : ℕ) → verdict s (inputs.Set station id v) ≡ None → IsTold s → IsTold (step s (inputs.Set station id v))
unfolding step verdict
told-set s station id v allowed told =
    let rest = both-none (stranger_refusal station s.desk.owner) _ allowed in
    let taken = both-none (place_refusal s.plan id v) _ rest.1 in
    told-desk s _ (record {
      sound = sound-set id v s.desk told.desk.sound (owner-owns station s.desk.owner rest.0)
          (sym (same_refusal s.plan id v (is_wide s.plan told.plan)) ∙ taken.0) (not-refused (has_no_room id s.desk.edits) _ taken.1);
      owner = told.desk.owner;
    }) told

told-verified : (s : State) (station : ℕ) → verdict s (inputs.Verify station) ≡ None → IsTold s → IsTold (step s (inputs.Verify station))
unfolding step verdict
told-verified s station allowed told =
    told-desk s _ (record {
      sound = sound-checked (found s.plan s.desk) s.desk told.desk.sound (owner-owns station s.desk.owner allowed);
      owner = told.desk.owner;
    }) told

rings-forgotten : (s : State) (b : Bool) → rings.IsInRange s.rings → rings.IsInRange (if b then ring.forgotten s.rings else s.rings)
rings-forgotten s true is = record { last = λ r. tt; commitment = is.commitment; side = is.side; crossing = is.crossing }
rings-forgotten s false is = is

told-committed : (s : State) (station : ℕ) → verdict s (inputs.Commit station) ≡ None → IsGood s → IsTold s → IsTold (step s (inputs.Commit station))
unfolding step
told-committed s station allowed good told =
    let after : IsGood (step s (inputs.Commit station)) = good_step s (inputs.Commit station) allowed good in
    record {
      plan = record {
        consistent = after.plan;
        phases = same_phase_count s.plan s.desk.edits ∙ told.plan.phases;
        sides = same_side_count s.plan s.desk.edits ∙ told.plan.sides;
        counts = same_counts s.plan s.desk.edits ∙ told.plan.counts;
        bounded = bounded-with s.plan s.desk.edits (is_wide s.plan told.plan) good.fit s.plan told.plan.bounded;
      };
      desk = desk-closed;
      layers = record {
        detectors = told.layers.detectors;
        memories = told.layers.memories;
        phases = told.layers.phases;
        others = told.layers.others;
        rings = rings-forgotten s _ told.layers.rings;
        preempts = told.layers.preempts;
        overlaps = told.layers.overlaps;
      };
      counting = told.counting;
      lamp = told.lamp;
      trip = told.trip;
    }

-- ## Every input, and every run

pub told-step : (s : State) (i : Input) → verdict s i ≡ None → IsTyped i → s.now ≤ TICKS → IsGood s → IsTold s → IsTold (step s i)
unfolding step
told-step s (inputs.Tick row) allowed typed early good told = told-ticked s row good told
told-step s (inputs.Pattern n) allowed typed early good told = told-pattern s n allowed told
told-step s (inputs.Switch n on) allowed typed early good told = told-switch s n on allowed told
told-step s (inputs.Fault lamp) allowed typed early good told = told-lit s lamp typed told
told-step s inputs.Reset allowed typed early good told = told-reset s told
told-step s (inputs.Begin station) allowed typed early good told = told-begun s station typed told
told-step s (inputs.Set station id v) allowed typed early good told = told-set s station id v allowed told
told-step s (inputs.Verify station) allowed typed early good told = told-verified s station allowed told
told-step s (inputs.Commit station) allowed typed early good told = told-committed s station allowed good told
told-step s (inputs.Abort station) allowed typed early good told = told-desk s _ desk-closed told
told-step s (inputs.Clock m) allowed typed early good told = told-clock s m typed early told
told-step s (inputs.Omit list) allowed typed early good told = told-omit s list allowed told

told-start : (plan : Plan) → IsHeld plan → IsTold (start plan)
told-start plan held = record {
  plan = held;
  desk = desk-closed;
  layers = record {
    detectors = detectors-begin 0;
    memories = memories-begin;
    phases = λ p. runs-begin 0;
    others = λ p out. refl;
    rings = rings-begin;
    preempts = preempts-begin 0;
    overlaps = overlaps-begin 0;
  };
  counting = record { ahead = omega arith; midnight = omega arith; start = tt };
  lamp = tt;
  trip = tt;
}

pub told-run : (plan : Plan) (is : List Input) → IsHeld plan → AreTaken plan is → AreTyped is → IsTold (replay plan is)
told-run plan [] held taken typed = told-start plan held
told-run plan (i ∷ is) held taken typed =
    told-step (replay plan is) i taken.1 typed.0 (run_early plan is taken.0) (good_run plan is held.consistent taken.0) (told-run plan is held taken.0 typed.1)
