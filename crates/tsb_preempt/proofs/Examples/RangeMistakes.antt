-- What the laws of cells and of what a tick looks at refuse, by computing: timers that begin after the tick, a bound on
-- how long timers run, and a ninth preempt. Beside each is what the definitions make of the same.
use Rattle.std.proofs.Common.{◌≡◌, ◌∙◌, ℕ, ◌+◌, ◌-◌, ◌==◌, nat_le, Bool, true, false, if◌then◌else◌, List, [], ◌∷◌, slice_index, Option, Some, None, refl, sym, ap, arith, inl, inr}
use Rattle.std.proofs.lemmas.Bool.{cases_Bool, eqb-true, true≢false}
use Rattle.tsb_cells.specs.Timer.{IsWithin}
use Rattle.tsb_cells.specs.declared.timer.Timer.TheVariants.{Off, On}
use Rattle.tsb_types.specs.declared.interval.Interval.TheVariants.{Green}
use Rattle.tsb_types.specs.declared.stage.Stage.TheVariants.{Dwell}
use Rattle.tsb_types.specs.Lists.{run_from, first}
use Rattle.tsb_types.specs.Sets.{number_of_bits}
use Rattle.tsb_objects.specs.tsb_plan.declared.object.Object.TheVariants.{PreemptDwellPhase}
use Rattle.tsb_objects.specs.tsb_plan.Plan.{Plan, with_value}
use Rattle.tsb_objects.specs.tsb_plan.Quad.{quad}
use Rattle.tsb_preempt.specs.Preempts.{Preempts, Given, at_power_up, is_preempt, requests, requesting}
use Rattle.tsb_preempt.specs.Cells.{preempts_in, service_in, preempts_cells, IsBy}
use Rattle.tsb_preempt.specs.Laws.{IsStateBy}
use Rattle.tsb_preempt.proofs.StateLemmas.{states-by}
use Rattle.tsb_preempt.proofs.Examples.Examples.{both, with_row, serving, service}

-- ## Rows are read

-- of tick 49: preempt 2 came into service in it, after a delay
abbrev pub begun : Preempts
begun = serving 2 (On 19) Dwell (On 0) Off

abbrev pub later : List ℕ
later = preempts_cells 49 begun

delay_fits : (is : Bool) → IsWithin 49 (if is then On 19 else Off)
delay_fits true = omega arith
delay_fits false = tt

no_delay : (n : ℕ) → is_preempt n ≡ false → begun.delay n ≡ Off
no_delay n out =
    elim (cases_Bool (n == 2)) [
      | inl e ↦ absurd (true≢false (sym (ap is_preempt (eqb-true n 2 e)) ∙ out))
      | inr e ↦ rw e refl
    ]

fits : IsStateBy 49 begun
fits = record {
  each = λ n from to. record { delay = delay_fits (n == 2); spent = λ on. absurd cc };
  off = λ n out. record { switch = refl; delay = no_delay n out; spent = refl };
  service = record {
    from = omega arith;
    within = omega arith;
    runs = refl;
    timer = omega arith;
    stage_timer = tt;
    outside_track = λ other. refl;
  };
}

can_be : IsBy 49 later
can_be = states-by 49 begun fits

is_told : preempts_cells 49 (preempts_in 49 later) ≡ later
unfolding preempts_in service_in number_of_bits run_from
is_told = refl

-- read at tick 40, when that had not begun
begins_50 : slice_index later 12 ≡ 50
unfolding number_of_bits run_from
begins_50 = refl

would_begin_41 : slice_index (preempts_cells 40 (preempts_in 40 later)) 12 ≡ 41
unfolding preempts_in service_in number_of_bits run_from
would_begin_41 = refl

-- ## Rows stay by: a bound on how long the service has lasted

abbrev pub is_recent : ℕ → List ℕ → Bool
is_recent now row = nat_le (now + 1 - slice_index row 12) 6000

is_recent_yet : is_recent 6049 later ≡ true
unfolding number_of_bits run_from
is_recent_yet = refl

would_not_stay : is_recent 6050 later ≡ false
unfolding number_of_bits run_from
would_not_stay = refl

-- ## States are read: a ninth preempt in service

abbrev pub ninth : Preempts
ninth = serving 9 Off Dwell (On 7) Off

serves_9 : ninth.service ≡ service 9 Dwell (On 7) Off
serves_9 = refl

would_read_none : (preempts_in 49 (preempts_cells 49 ninth)).service ≡ None
unfolding preempts_in service_in number_of_bits run_from
would_read_none = refl

-- ## A row reads as preempts in range: a row that has a stage timer in Dwell

abbrev pub still_timed : List ℕ
still_timed = 0 ∷ 0 ∷ 0 ∷ 31 ∷ 0 ∷ 0 ∷ 0 ∷ 0 ∷ 0 ∷ 0 ∷ 2 ∷ 1 ∷ 50 ∷ 50 ∷ []

would_be_timed : (preempts_in 49 still_timed).service ≡ service 2 Dwell (On 0) (On 0)
unfolding preempts_in service_in
would_be_timed = refl

-- ## Looks only at its own: the input of a ninth preempt

abbrev pub requesting_of_9 : Plan → Given → Preempts → Option ℕ
requesting_of_9 plan given w = first (requests plan given w) (run_from 1 9)

-- a plan with a list for it, and its input on
abbrev pub with_ninth : Plan
with_ninth = with_value quad PreemptDwellPhase 9 8

requests_none : requesting with_ninth (with_row 9 (both Green 2 6)) at_power_up ≡ None
unfolding quad run_from requesting
requests_none = refl

would_request_9 : requesting_of_9 with_ninth (with_row 9 (both Green 2 6)) at_power_up ≡ Some 9
unfolding quad run_from
would_request_9 = refl
