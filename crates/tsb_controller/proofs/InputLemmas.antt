-- What power-up, a reset, a selected pattern, a clock and a switch make of the rows is what the one step makes of the state.
use Rattle.std.proofs.Common.{◌≡◌, ℕ, ◌==◌, Bool, true, false, not, ◌&&◌, ◌||◌, if◌then◌else◌, List, Option, Some, None, refl, sym, ap, ◌∙◌, inl, inr}
use Rattle.std.proofs.Math.Path.{fun_ext}
use Rattle.std.proofs.lemmas.Bool.{cases_Bool, true≢false, eqb-true}
use Rattle.tsb_step.specs.tsb_types.declared.refusal.Refusal.{Refusal}
use Rattle.tsb_step.specs.tsb_types.declared.refusal.Refusal.TheVariants.{NoSuchPreempt}
use Rattle.tsb_step.specs.tsb_types.Sets.{is_phase}
use Rattle.tsb_step.proofs.tsb_types.ClipLemmas.{among_16}
use Rattle.tsb_step.specs.tsb_plan.Plan.{Plan}
use Rattle.tsb_detect.specs.Detector as detector
use Rattle.tsb_detect.specs.Detector.{Detector, is_detector}
use Rattle.tsb_detect.proofs.StateLemmas.{among-detectors}
use Rattle.tsb_detect.specs.Cells.{detector_in}
use Rattle.tsb_detect.specs.Promises as detect
use Rattle.tsb_calls.specs.Memories as memories_words
use Rattle.tsb_calls.specs.Cells.{memories_in}
use Rattle.tsb_calls.specs.Promises as calls
use Rattle.tsb_calls.proofs.StateLemmas.{whole-same, off-read}
use Rattle.tsb_phase.specs.Phase.{at_power_up}
use Rattle.tsb_phase.specs.Moves.{unforced}
use Rattle.tsb_phase.specs.Cells.{phase_in}
use Rattle.tsb_phase.specs.Promises as phases
use Rattle.tsb_coord.specs.Coordinated as coordination
use Rattle.tsb_coord.specs.Cells.{pattern_in, correction_in, start_in}
use Rattle.tsb_coord.specs.Clock.{midnight_at, start_of}
use Rattle.tsb_coord.specs.Correction.{local_now, selected_correction}
use Rattle.tsb_coord.specs.Promises as coord
use Rattle.tsb_preempt.specs.Preempts as preempts_words
use Rattle.tsb_preempt.specs.Preempts.{Preempts, is_preempt, after_reset, with_switch, switch_refusal}
use Rattle.tsb_preempt.specs.Cells as preempt_cells
use Rattle.tsb_preempt.specs.Cells.{preempts_in}
use Rattle.tsb_preempt.specs.Laws.{IsOff}
use Rattle.tsb_preempt.specs.Promises as preempts
use Rattle.tsb_preempt.specs.Service.{has_dwell}
use Rattle.tsb_preempt.proofs.StateLemmas.{all-same, off-outside}
use Rattle.tsb_phase.proofs.StateLemmas.{outside as at-rest}

-- ## Rows that say the same of 1 to 16, and of nothing else

pub detectors-start : (now : ℕ) (new : List ℕ) → detect.IsAtPowerUp now new → detector_in now new ≡ (λ d. detector.at_power_up)
unfolding detector_in
detectors-start now new done = fun_ext (λ d. elim (cases_Bool (is_detector d)) [
  | inl on ↦ done d (among-detectors d on).from (among-detectors d on).to
  | inr out ↦ rw out refl
])

pub memories-start : (new : List ℕ) → calls.IsAtPowerUp new → memories_in new ≡ memories_words.at_power_up
memories-start new done =
    whole-same (memories_in new) memories_words.at_power_up
    (record { vehicle = λ p from to. (done p from to).vehicle; pedestrian = λ p from to. (done p from to).pedestrian; count = λ p from to. (done p from to).count })
    (off-read new) (record { vehicle = λ p out. refl; pedestrian = λ p out. refl; count = λ p out. refl })

pub phases-start : (now : ℕ) (new : List ℕ) → phases.IsAtPowerUp now new → phase_in now new ≡ (λ p. at_power_up)
phases-start now new done = fun_ext (λ p. elim (cases_Bool (is_phase p)) [
  | inl on ↦ done p (among_16 p on).from (among_16 p on).to
  | inr out ↦ at-rest now new p out
])

pub unforced-all : (now : ℕ) (old new : List ℕ) → phases.IsUnforced old new → phase_in now new ≡ (λ p. unforced (phase_in now old p))
unforced-all now old new done = fun_ext (λ p. elim (cases_Bool (is_phase p)) [
  | inl on ↦ done now p (among_16 p on).from (among_16 p on).to
  | inr out ↦ at-rest now new p out ∙ sym (ap unforced (at-rest now old p out))
])

-- ## Patterns

pub selected : (n now : ℕ) (plan : Plan) (old new : List ℕ) → coordination.refusal plan n ≡ None → coord.IsSelected n now plan old new →
    pattern_in new ≡ coordination.selects n
selected n now plan old new allowed done = done.pattern ∙ ap (λ (o : Option Refusal). coord.selected_after o n (pattern_in old)) allowed

-- how its local counter comes into step, by the plan beside the rows
pub corrected : (n now : ℕ) (plan beside : Plan) (old new : List ℕ) → coordination.refusal plan n ≡ None → coord.IsSelected n now plan old new → beside ≡ plan →
    correction_in new ≡ selected_correction beside (coordination.selects n) now (midnight_at (start_in old) now) (local_now beside (pattern_in old) (correction_in old) now)
corrected n now plan beside old new allowed done same =
    done.correction
    ∙ ap (λ (o : Option Refusal). coord.correction_after o plan now n old) allowed
    ∙ ap (λ (x : Plan). selected_correction x (coordination.selects n) now (midnight_at (start_in old) now) (local_now x (pattern_in old) (correction_in old) now)) (sym same)

-- with a clock that is set
pub clocked : (moment now : ℕ) (plan beside : Plan) (old new : List ℕ) → coord.IsClocked moment now plan old new → beside ≡ plan →
    correction_in new ≡ selected_correction beside (pattern_in old) now (midnight_at (Some (start_of moment now)) now) (local_now beside (pattern_in old) (correction_in old) now)
clocked moment now plan beside old new done same =
    done.correction
    ∙ ap (λ (x : Plan). selected_correction x (pattern_in old) now (midnight_at (Some (start_of moment now)) now) (local_now x (pattern_in old) (correction_in old) now)) (sym same)

-- ## Preempts

off-by : (now : ℕ) (row : List ℕ) → preempt_cells.IsBy now row → (n : ℕ) → is_preempt n ≡ false → IsOff (preempts_in now row) n
off-by now row by n out = off-outside now row n by.switches by.spent out

pub preempts-start : (now : ℕ) (new : List ℕ) → preempts.IsAtPowerUp new → preempt_cells.IsBy now new → preempts_in now new ≡ preempts_words.at_power_up
preempts-start now new done by =
    all-same (preempts_in now new) preempts_words.at_power_up (done now) (off-by now new by) (λ n out. record { switch = refl; delay = refl; spent = refl })

-- switches are read the same at every tick
after-any : (m n : ℕ) (row : List ℕ) → after_reset (preempts_in m row) ≡ after_reset (preempts_in n row)
unfolding preempts_in
after-any m n row = refl

pub preempts-reset : (now m : ℕ) (old new : List ℕ) → preempts.IsReset now old new → preempt_cells.IsBy now old → preempt_cells.IsBy now new →
    preempts_in now new ≡ after_reset (preempts_in m old)
preempts-reset now m old new done by by_new =
    all-same (preempts_in now new) (after_reset (preempts_in now old)) done (off-by now new by_new)
    (λ n out. record { switch = (off-by now old by n out).switch; delay = refl; spent = refl })
    ∙ after-any now m old

-- only a preempt is switched
pub switched-one : (plan : Plan) (n : ℕ) (on : Bool) → switch_refusal plan n on ≡ None → is_preempt n ≡ true
switched-one plan n on allowed = go (is_preempt n) (not on || has_dwell plan n) refl allowed
  where
    go : (a b : Bool) → is_preempt n ≡ a → (if a && b then None else Some NoSuchPreempt) ≡ None → is_preempt n ≡ true
    go true b e h = e
    go false b e h = absurd cc

pub preempts-switched : (now : ℕ) (plan : Plan) (n : ℕ) (on : Bool) (old new : List ℕ) → switch_refusal plan n on ≡ None →
    preempts.IsSame (preempts_in now new) (with_switch n on (preempts_in now old)) → preempt_cells.IsBy now old → preempt_cells.IsBy now new →
    preempts_in now new ≡ with_switch n on (preempts_in now old)
preempts-switched now plan n on old new allowed done by by_new =
    all-same (preempts_in now new) (with_switch n on (preempts_in now old)) done (off-by now new by_new) off
  where
    other : (k : ℕ) → is_preempt k ≡ false → (k == n) ≡ false
    other k out = elim (cases_Bool (k == n)) [
      | inl same ↦ (let e : k ≡ n = eqb-true k n same in absurd (true≢false (sym (switched-one plan n on allowed) ∙ ap is_preempt (sym e) ∙ out)))
      | inr apart ↦ apart
    ]

    off : (k : ℕ) → is_preempt k ≡ false → IsOff (with_switch n on (preempts_in now old)) k
    off k out = record {
      switch = rw (other k out) (off-by now old by k out).switch;
      delay = (off-by now old by k out).delay;
      spent = (off-by now old by k out).spent;
    }
