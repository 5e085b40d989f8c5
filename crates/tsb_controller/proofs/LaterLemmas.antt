-- What rows say at whatever tick they are read; that a phase which a tick left as it was has not moved; and what a tick
-- finds, as sets.
use Rattle.std.proofs.Common.{zero, suc, ◌≡◌, ℕ, ◌+◌, ◌-◌, ◌≤◌, Bool, true, false, ◌&&◌, if◌then◌else◌, List, Option, Some, None, is_some, is_none, option_map, refl, sym, ap, ◌∙◌, inl, inr, arith, subst, slice_index}
use Rattle.std.proofs.lemmas.Bool.{cases_Bool, and_parts, true≢false}
use Rattle.tsb_cells.specs.declared.timer.Timer.TheVariants.{Off, On}
use Rattle.tsb_cells.specs.Timer.{timer_at}
use Rattle.tsb_cells.proofs.TimerLemmas.{timer_at-on}
use Rattle.tsb_step.specs.tsb_types.declared.limits.TheConstants.{PREEMPTS}
use Rattle.tsb_step.specs.tsb_types.declared.flow.Timing.{Timing}
use Rattle.tsb_step.specs.tsb_types.declared.interval.Interval.{Interval}
use Rattle.tsb_step.specs.tsb_types.declared.interval.Interval.TheVariants.{Red, Green, Yellow, RedClear}
use Rattle.tsb_step.specs.tsb_types.declared.interval.PedestrianInterval.{PedestrianInterval}
use Rattle.tsb_step.specs.tsb_types.declared.interval.PedestrianInterval.TheVariants.{DontWalk, Walk, PedestrianClear}
use Rattle.tsb_step.specs.tsb_types.declared.phase_set.PhaseSet.{PhaseSet}
use Rattle.tsb_step.specs.tsb_types.declared.stage.Stage.{Stage}
use Rattle.tsb_step.specs.tsb_types.Clip.{Agree}
use Rattle.tsb_step.specs.tsb_types.Intervals.{is_green, is_dont_walk}
use Rattle.tsb_step.specs.tsb_types.Sets.{has, is_phase, list_of, set_of_list}
use Rattle.tsb_step.proofs.tsb_types.ClipLemmas.{among_16}
use Rattle.tsb_step.proofs.tsb_types.SetLemmas.{names-list_of}
use Rattle.tsb_step.specs.tsb_plan.Plan.{Plan}
use Rattle.tsb_detect.specs.Cells as detect_cells
use Rattle.tsb_detect.specs.Cells.{detector_in}
use Rattle.tsb_detect.specs.Detector.{Detector, is_detector}
use Rattle.tsb_phase.specs.Cells as phase_cells
use Rattle.tsb_phase.specs.Cells.{phase_in, row_in}
use Rattle.tsb_phase.specs.Next as phase_next
use Rattle.tsb_phase.specs.Next.{interval_after, new_pedestrian}
use Rattle.tsb_phase.specs.Pedestrian as pedestrian
use Rattle.tsb_phase.specs.Pedestrian.{may_walk_again, pedestrian_after, pedestrian_now}
use Rattle.tsb_phase.specs.Phase as phase
use Rattle.tsb_phase.specs.Phase.{Phase, as_read}
use Rattle.tsb_phase.specs.Promises.{read_in}
use Rattle.tsb_phase.specs.Ready as timing
use Rattle.tsb_phase.specs.Ready.{is_over, is_over_in}
use Rattle.tsb_preempt.specs.Cells.{service_in, preempts_in}
use Rattle.tsb_preempt.specs.Preempts.{is_preempt, wanted_by}
use Rattle.tsb_preempt.specs.Promises.{stage_of}
use Rattle.tsb_preempt.specs.Service.{Service, service_as_read}
use Rattle.tsb_controller.specs.Passing.{wanted_in}
use Rattle.tsb_controller.proofs.CarryLemmas.{same-interval}

-- ## What rows say at whatever tick they are read

pub part-at : (m n : ℕ) (cells : List ℕ) (p : ℕ) → (phase_in m cells p).pedestrian ≡ (phase_in n cells p).pedestrian
unfolding phase_in row_in
part-at m n cells p = elim (cases_Bool (is_phase p)) [
  | inl on ↦ rw on refl
  | inr out ↦ rw out refl
]

pub output-at : (m n : ℕ) (cells : List ℕ) (d : ℕ) → (detector_in m cells d).output ≡ (detector_in n cells d).output
unfolding detector_in detect_cells.row_in
output-at m n cells d = elim (cases_Bool (is_detector d)) [
  | inl on ↦ rw on refl
  | inr out ↦ rw out refl
]

pub actuated-at : (m n : ℕ) (cells : List ℕ) (d : ℕ) → (detector_in m cells d).actuated ≡ (detector_in n cells d).actuated
unfolding detector_in detect_cells.row_in
actuated-at m n cells d = elim (cases_Bool (is_detector d)) [
  | inl on ↦ rw on refl
  | inr out ↦ rw out refl
]

abbrev pub output_in : (ℕ → Detector) → ℕ → Bool
output_in f d = (f d).output

abbrev pub actuated_in : (ℕ → Detector) → ℕ → Bool
actuated_in f d = (f d).actuated

abbrev pub number_of : Option Service → Option ℕ
number_of o = option_map (λ (x : Service). x.preempt) o

pub number-at : (m n : ℕ) (cells : List ℕ) → number_of (preempts_in m cells).service ≡ number_of (preempts_in n cells).service
unfolding preempts_in service_in
number-at m n cells = elim (cases_Bool (is_preempt (slice_index cells (2 + PREEMPTS)))) [
  | inl on ↦ rw on refl
  | inr out ↦ rw out refl
]

pub wanted-at : (m n : ℕ) (plan : Plan) (cells : List ℕ) → wanted_by plan (preempts_in m cells).service ≡ wanted_by plan (preempts_in n cells).service
unfolding preempts_in service_in
wanted-at m n plan cells = elim (cases_Bool (is_preempt (slice_index cells (2 + PREEMPTS)))) [
  | inl on ↦ rw on refl
  | inr out ↦ rw out refl
]

-- service that is in the row before and after a tick did not end
pub not-ended : (m n : ℕ) (cells : List ℕ) → (is_some (service_as_read (preempts_in m cells).service) && is_none (preempts_in n cells).service) ≡ false
unfolding preempts_in service_in
not-ended m n cells = elim (cases_Bool (is_preempt (slice_index cells (2 + PREEMPTS)))) [
  | inl on ↦ rw on refl
  | inr out ↦ rw out refl
]

pub wanted-of : (plan : Plan) (o : Option Service) → wanted_in plan (stage_of o) ≡ wanted_by plan o
wanted-of plan None = refl
wanted-of plan (Some s) = refl

-- the preempt of a stage is that of the service
pub number-of : (o : Option Service) → option_map (λ (x : ℕ × Stage). x.0) (stage_of o) ≡ option_map (λ (x : Service). x.preempt) o
number-of None = refl
number-of (Some s) = refl

-- ## A phase that a tick leaves as it was has not moved

not-begun : (now cell : ℕ) → 1 ≤ now → cell ≤ now - 1 + 1 → timer_at now cell ≡ On 0 → ⊥
not-begun now zero one early e = absurd cc
not-begun now (suc c) one early e =
    let running : On (now + 1 - suc c) ≡ On 0 = sym (timer_at-on now (suc c) (omega arith)) ∙ e in
    let at_once : now + 1 - suc c ≡ 0 = cc in
    omega (arith, one, early, at_once)

no-end : (plan : Plan) (m : phase.Moved) (p : ℕ) (w : Phase) (i : Interval) → m.ends p ≡ true → is_green i ≡ true → interval_after plan m p w i ≡ i → ⊥
no-end plan m p w Red on green e = true≢false (sym green)
no-end plan m p w Green on green e = let no : Yellow ≡ Green = rw on at e in absurd cc
no-end plan m p w Yellow on green e = true≢false (sym green)
no-end plan m p w RedClear on green e = true≢false (sym green)

no-clear : (plan : Plan) (m : phase.Moved) (p : ℕ) (w : Phase) (i : Interval) → m.clears p ≡ true → is_over_in plan p w i ≡ true → interval_after plan m p w i ≡ i → ⊥
no-clear plan m p w Red on finished e = true≢false (sym finished)
no-clear plan m p w Green on finished e = true≢false (sym finished)
no-clear plan m p w Yellow on finished e = let no : Red ≡ Yellow = rw on at e in absurd cc
no-clear plan m p w RedClear on finished e = let no : Red ≡ RedClear = rw on at e in absurd cc

-- a walk that begins within a green changes its part
no-walk : (plan : Plan) (given : phase.Given) (p : ℕ) (w : Phase) (part : PedestrianInterval) → is_dont_walk part ≡ true → may_walk_again given p w ≡ true →
    pedestrian_after plan given p w part ≡ part → ⊥
no-walk plan given p w DontWalk none again e = let no : Walk ≡ DontWalk = rw again at e in absurd cc
no-walk plan given p w Walk none again e = true≢false (sym none)
no-walk plan given p w PedestrianClear none again e = true≢false (sym none)

module _ (now : ℕ) (plan : Plan) (cells : List ℕ) (given : phase.Given) (m : phase.Moved) (p : ℕ) (one : 1 ≤ now) (by : phase_cells.IsBy (now - 1) cells)
    (same : phase_in now cells p ≡ phase_next.next plan given m p (phase_in (now - 1) cells p)) where
  abbrev pub was : Phase
  was = phase_in (now - 1) cells p

  older : (phase_in now cells p).timer ≡ On 0 → ⊥
  unfolding phase_in row_in
  older e = elim (cases_Bool (is_phase p)) [
    | inl on ↦ (let here : timer_at now (slice_index cells (3 + p)) ≡ On 0 = rw on at e in not-begun now (slice_index cells (3 + p)) one (by.each p (among_16 p on).from (among_16 p on).to).timer here)
    | inr out ↦ (let no : Off ≡ On 0 = rw out at e in absurd cc)
  ]

  begun : m.starts p ≡ true → (phase_next.next plan given m p was).timer ≡ On 0
  begun on = rw on refl

  pub starts-off : m.starts p ≡ false
  starts-off = elim (cases_Bool (m.starts p)) [
    | inl on ↦ absurd (older (ap (λ (x : Phase). x.timer) same ∙ begun on))
    | inr off ↦ off
  ]

  after-same : interval_after plan m p (as_read was) was.interval ≡ was.interval
  after-same =
      subst (λ (b : Bool). (if b then Green else interval_after plan m p (as_read was) was.interval) ≡ was.interval) starts-off
      (sym (ap (λ (x : Phase). x.interval) same) ∙ same-interval now (now - 1) cells p)

  pub ends-off : (m.ends p ≡ true → is_green was.interval ≡ true) → m.ends p ≡ false
  ends-off greens = elim (cases_Bool (m.ends p)) [
    | inl on ↦ absurd (no-end plan m p (as_read was) was.interval on (greens on) after-same)
    | inr off ↦ off
  ]

  pub clears-off : (m.clears p ≡ true → is_over plan p (as_read was) ≡ true) → m.clears p ≡ false
  unfolding is_over
  clears-off overs = elim (cases_Bool (m.clears p)) [
    | inl on ↦ absurd (no-clear plan m p (as_read was) was.interval on (overs on) after-same)
    | inr off ↦ off
  ]

  part-same : new_pedestrian plan given m p (as_read was) ≡ was.pedestrian
  part-same = sym (ap (λ (x : Phase). x.pedestrian) same) ∙ part-at now (now - 1) cells p

  pub walks-off : m.ends p ≡ false → pedestrian.walks_again given p (as_read was) ≡ false
  unfolding pedestrian_now
  walks-off stays = elim (cases_Bool (pedestrian.walks_again given p (as_read was))) [
    | inl on ↦
        (let both = and_parts (is_dont_walk was.pedestrian) (may_walk_again given p (as_read was)) on in
        let green : is_green was.interval ≡ true = (and_parts (is_green was.interval) _ both.1).0 in
        let after : pedestrian_after plan given p (as_read was) was.pedestrian ≡ was.pedestrian = rw (starts-off, stays, green) at part-same in
        absurd (no-walk plan given p (as_read was) was.pedestrian both.0 both.1 after))
    | inr off ↦ off
  ]

-- ## What a tick finds, as sets

abbrev pub set : (ℕ → Bool) → PhaseSet
set f = record { numbers = set_of_list (list_of 16 f) }

pub set-has : (f : ℕ → Bool) → Agree (has (set f)) f
set-has f p from to = names-list_of 16 p f from to

-- what a tick that was given `c` finds of the phases in a row
abbrev pub timing_of : ℕ → Plan → phase.Given → List ℕ → Timing
timing_of now plan given cells = record {
  ready = set (λ p. timing.is_ready plan given p (read_in now cells p));
  over = set (λ p. timing.is_over plan p (read_in now cells p));
  red_revert_passed = set (λ p. timing.red_revert_passed plan p (read_in now cells p));
  gapped = set (λ p. timing.is_gapped_now plan given p (read_in now cells p));
  walks = set (λ p. pedestrian.walks_again given p (read_in now cells p));
}
