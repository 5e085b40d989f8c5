use Rattle.std.proofs.Common.{◌∙◌, ◌||◌, ℕ, Bool, if◌then◌else◌, List, Option, None, get_or, refl, sym, ap, ap₂}
use Rattle.tsb_step.specs.tsb_types.Lists.{is}
use Rattle.tsb_objects.specs.Checked.{checked_plan}
use Rattle.tsb_ring.specs.Rings.{Ring1, Ring2}
use Rattle.tsb_step.specs.declared.status.FlashStatus.TheVariants.{Mmu, NotFlash}
use Rattle.tsb_step.specs.Cells.{clock_at}
use Rattle.tsb_step.specs.Events.{view}
use Rattle.tsb_step.specs.State.{State}
use Rattle.tsb_step.specs.Status.{has_arrows, ring_with, serving, status}
use Rattle.tsb_step.specs.Waits.{wait}
use Rattle.tsb_events.specs.Agree.{AgreeInAll}
use Rattle.tsb_events.specs.Seen.{view_of}
use Rattle.tsb_status.specs.declared.status.RingStatus.{RingStatus}
use Rattle.tsb_status.specs.Plain.{resting, ring_place, ring_status_of}
use Rattle.tsb_controller.specs.Layer.{rows_of}
use Rattle.tsb_controller.specs.Rows.{state_of}
use Rattle.tsb_controller.specs.StatusPromises.{AreSets, AreToldRings, IsToldPattern, ring_status_by}
use Rattle.tsb_controller.proofs.StatusLemmas.{each-ring, ring-status}
use Rattle.tsb_controller.proofs.StatusSetLemmas.{agree-if_any}
use Rattle.tsb_controller.proofs.controller.Controller.status.Goals as goal

pub view-seen-requires-clause-overlaps_by : goal.view-seen-requires-clause-overlaps_by
view-seen-requires-clause-overlaps_by c = (c.args.beside.now.clock, c.requires.by.overlaps)

pub returns : goal.returns
unfolding view status
returns c b stands =
    let rows = rows_of c.args.self.now in
    let plan = checked_plan c.args.plan.now in
    let told = c.args.beside.now in
    let s : State = state_of told.tick b rows in
    let a : AgreeInAll (view_of c.view-seen.result) (view s) = c.view-seen.ensures b stands.plan_is stands.trips stands.clock_is in
    let sets : AreSets s c.sets-sets.result = c.sets-sets.ensures told.tick b stands.plan_is a in
    let rings : AreToldRings s c.rings_told-rings.result = c.rings_told-rings.ensures told.tick b stands.plan_is stands.clock_is in
    let pattern : IsToldPattern s c.pattern_told-pattern.result = c.pattern_told-pattern.ensures b stands.plan_is in
    record {
      now = refl;
      reds = sets.reds;
      yellows = a.yellows;
      greens = a.greens;
      dont_walks = sets.dont_walks;
      pedestrian_clears = a.clearances;
      walks = a.walks;
      vehicle_calls = a.vehicle_calls;
      pedestrian_calls = a.pedestrian_calls;
      phase_ons = sets.phase_ons;
      phase_nexts = λ p from to. c.nexts.ensures p ∙ ap₂ (λ (x y : Option ℕ). is p x || is p y) rings.first.next rings.second.next;
      overlap_reds = sets.overlap_reds;
      overlap_yellows = a.overlap_yellows;
      overlap_greens = a.overlap_greens;
      overlap_arrows = agree-if_any (has_arrows s.plan) (has_arrows plan) c.view-seen.result.overlap_arrows (view s).overlap_arrows c.arrows_of.result c.arrows_of.ensures (ap has_arrows stands.plan_is) a.overlap_arrows;
      active = λ d from to. c.outputs.ensures (clock_at told.tick b.trip) d from to;
      alarms = a.alarms;
      preempt = λ n from to. c.preempt_states.ensures n from to told.tick b stands.plan_is;
      pattern = pattern.number;
      free = pattern.free;
      local = pattern.local;
      sync = pattern.sync;
      time = pattern.time;
      flash = c.flash.ensures ∙ ap (λ (t : Bool). if t then Mmu else NotFlash) (sym stands.trips);
      owner = sym stands.owner_is;
      desk = sym stands.desk_is;
      ring = λ r.
          ap (λ (xs : List RingStatus). ring_status_of (get_or xs (ring_place r) resting)) c.ring_statuses.ensures
          ∙ each-ring (λ q. ring_with s q (serving s q)) (ring_status_by plan told rows c.rings_told-rings.result.first) (ring_status_by plan told rows c.rings_told-rings.result.second)
          (ring-status plan told rows b Ring1 c.rings_told-rings.result.first stands rings.first)
          (ring-status plan told rows b Ring2 c.rings_told-rings.result.second stands rings.second) r;
      wait = λ p from to.
          c.waits_of.ensures b stands rings p from to
          ∙ ap (λ (t : Bool). if t then wait s p else None) (sets.waiting p from to);
    }
