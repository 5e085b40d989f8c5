-- Whole lines: one worked by hand, and the longest one.
use Rattle.std.proofs.Common.{◌≡◌, ◌==◌, ◌||◌, true, false, Some, None, codes, length, refl, if◌then◌else◌}
use Rattle.std.specs.Fmt.{digits}
use Rattle.tsb_step.specs.tsb_transact.declared.desk_state.DeskState.TheVariants as desk_states
use Rattle.tsb_step.specs.tsb_ring.Rings.{Ring, Ring1, Ring2}
use Rattle.tsb_step.specs.declared.status.RingPart.TheVariants as parts
use Rattle.tsb_step.specs.declared.status.PreemptState.TheVariants as preempt_states
use Rattle.tsb_step.specs.declared.status.FreeStatus.TheVariants.{CommandFree}
use Rattle.tsb_step.specs.declared.status.FlashStatus.TheVariants.{NotFlash}
use Rattle.tsb_step.specs.declared.waits.Lack.TheVariants as lacks
use Rattle.tsb_step.specs.declared.waits.Wait.TheVariants as waits
use Rattle.tsb_step.specs.Status.{RingStatus, Status}
use Rattle.tsb_status_text.specs.declared.line.TheConstants.{LONGEST}
use Rattle.tsb_types.specs.Lists.{run_from}
use Rattle.tsb_status_text.specs.Json.{numbers, values_from}
use Rattle.tsb_status_text.specs.StatusText.{phases_text, overlaps_text, detectors_text, preempts_text, desk_text, ring_text, rings_text, wait_text, waits_text, status_text}

-- what a computed line opens
unfoldable pub opened_line : Unit {0}
unfolding numbers values_from run_from phases_text overlaps_text detectors_text preempts_text desk_text ring_text rings_text wait_text waits_text status_text digits
opened_line = tt

-- ## Phases 2 and 6 in green, 2 with a walk, and a call of 4

-- ring 1 walks, ring 2 rests
green_in : Ring → RingStatus
green_in Ring1 = record {
  part = parts.MinimumGreen;
  phase = Some 2;
  next = None;
  initial_left = Some 0;
  gap = Some 30;
  gap_left = Some 30;
  maximum_left = None;
  walk_left = Some 25;
  clearance_left = None;
  yellow_left = None;
  red_clearance_left = None;
  force_off_in = None;
}
green_in Ring2 = record {
  part = parts.GreenRest;
  phase = Some 6;
  next = None;
  initial_left = Some 0;
  gap = Some 30;
  gap_left = Some 0;
  maximum_left = None;
  walk_left = None;
  clearance_left = None;
  yellow_left = None;
  red_clearance_left = None;
  force_off_in = None;
}

walks : Status
walks = record {
  now = 120;
  reds = λ p. p == 4 || p == 8;
  yellows = λ p. false;
  greens = λ p. p == 2 || p == 6;
  dont_walks = λ p. false;
  pedestrian_clears = λ p. false;
  walks = λ p. p == 2;
  vehicle_calls = λ p. p == 4;
  pedestrian_calls = λ p. false;
  phase_ons = λ p. p == 2 || p == 6;
  phase_nexts = λ p. false;
  overlap_reds = λ o. false;
  overlap_yellows = λ o. false;
  overlap_greens = λ o. o == 1;
  overlap_arrows = None;
  active = λ d. d == 2;
  alarms = λ d. d == 16;
  preempt = λ n. if n == 2 then preempt_states.NotActiveWithCall else preempt_states.NotActive;
  pattern = 254;
  free = CommandFree;
  local = None;
  sync = None;
  time = None;
  flash = NotFlash;
  owner = Some 3;
  desk = desk_states.Verify;
  ring = green_in;
  wait = λ p. if p == 4 then Some (waits.Green 2 (lacks.Walk 25)) else None;
}

line_of_walks : status_text walks ≡ codes "{\"tick\":120,\"phaseStatusGroup\":{\"reds\":[4,8],\"yellows\":[],\"greens\":[2,6],\"dontWalks\":[],\"pedClears\":[],\"walks\":[2],\"vehCalls\":[4],\"pedCalls\":[],\"phaseOns\":[2,6],\"phaseNexts\":[]},\"overlapStatusGroup\":{\"reds\":[],\"yellows\":[],\"greens\":[1]},\"vehicleDetectorStatusGroup\":{\"active\":[2],\"alarms\":[16]},\"preemptState\":[\"notActive\",\"notActiveWithCall\",\"notActive\",\"notActive\"],\"coordPatternStatus\":254,\"localFreeStatus\":\"commandFree\",\"localCounter\":null,\"coordSyncStatus\":null,\"unitFlashStatus\":\"notFlash\",\"desk\":{\"owner\":3,\"state\":\"verify\"},\"rings\":[{\"ringStatus\":\"minimumGreen\",\"phase\":2,\"next\":null,\"initialLeft\":0,\"gap\":30,\"gapLeft\":30,\"maximumLeft\":null,\"walkLeft\":25,\"clearanceLeft\":null,\"yellowLeft\":null,\"redClearanceLeft\":null,\"forceOffIn\":null},{\"ringStatus\":\"greenRest\",\"phase\":6,\"next\":null,\"initialLeft\":0,\"gap\":30,\"gapLeft\":0,\"maximumLeft\":null,\"walkLeft\":null,\"clearanceLeft\":null,\"yellowLeft\":null,\"redClearanceLeft\":null,\"forceOffIn\":null}],\"waits\":[{\"phase\":4,\"for\":\"green\",\"of\":2,\"lack\":\"walk\",\"left\":25}]}"
unfolding opened_line walks green_in
line_of_walks = refl

-- ## Overlap 1 is an arrow, beside phase 4 that trails

-- arrow 1 flashes, and overlap 2 follows phase 4 in green
shows_arrow : Status
shows_arrow = record walks { overlap_greens = λ o. o == 2; overlap_arrows = Some (λ o. o == 1) }

overlaps_of_arrow : overlaps_text shows_arrow ≡ codes "{\"reds\":[],\"yellows\":[],\"greens\":[2],\"flashingYellows\":[1]}"
unfolding opened_line walks shows_arrow
overlaps_of_arrow = refl

wait_of_trail : wait_text 7 (waits.Trails 4 2 25) ≡ codes "{\"phase\":7,\"for\":\"trails\",\"of\":4,\"overlap\":2,\"left\":25}"
unfolding opened_line
wait_of_trail = refl

-- ## The longest line

-- a ring that tells all its times
full_ring : RingStatus
full_ring = record {
  part = parts.MinimumGreen;
  phase = None;
  next = None;
  initial_left = Some 4294967295;
  gap = Some 4294967295;
  gap_left = Some 4294967295;
  maximum_left = Some 4294967295;
  walk_left = Some 4294967295;
  clearance_left = Some 4294967295;
  yellow_left = Some 4294967295;
  red_clearance_left = Some 4294967295;
  force_off_in = Some 4294967295;
}

full : Status
full = record {
  now = 4294967295;
  reds = λ p. true;
  yellows = λ p. true;
  greens = λ p. true;
  dont_walks = λ p. true;
  pedestrian_clears = λ p. true;
  walks = λ p. true;
  vehicle_calls = λ p. true;
  pedestrian_calls = λ p. true;
  phase_ons = λ p. true;
  phase_nexts = λ p. true;
  overlap_reds = λ o. true;
  overlap_yellows = λ o. true;
  overlap_greens = λ o. true;
  overlap_arrows = Some (λ o. true);
  active = λ d. true;
  alarms = λ d. true;
  preempt = λ n. preempt_states.NotActiveWithCall;
  pattern = 255;
  free = CommandFree;
  local = Some 4294967295;
  sync = Some 4294967295;
  time = Some 4294967295;
  flash = NotFlash;
  owner = None;
  desk = desk_states.Transaction;
  ring = λ r. full_ring;
  wait = λ p. Some (waits.Green 16 (lacks.Clearance 4294967295));
}

-- there is a line of so many bytes
longest : length (status_text full) ≡ LONGEST
unfolding opened_line full full_ring
longest = refl
