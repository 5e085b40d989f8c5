-- Parts of lines that the definitions give, worked by hand, and mistakes that they refuse.
use Rattle.std.proofs.Common.{◌≡◌, ◌==◌, ◌||◌, Some, None, codes, refl, if◌then◌else◌}
use Rattle.std.specs.Fmt.{digits}
use Rattle.tsb_step.specs.declared.waits.Lack.TheVariants as lacks
use Rattle.tsb_step.specs.declared.waits.Wait.TheVariants as waits
use Rattle.tsb_step.specs.declared.status.PreemptState.TheVariants as preempt_states
use Rattle.tsb_types.specs.Lists.{run_from}
use Rattle.tsb_status_text.specs.Json.{numbers, values_from}
use Rattle.tsb_status_text.specs.StatusText.{preempts_text, wait_text, waits_text}

-- what a computed text opens
unfoldable pub opened : Unit {0}
unfolding numbers values_from preempts_text run_from wait_text waits_text digits
opened = tt

-- ## Sets

-- phases 1, 3 and 12
three : numbers (λ p. p == 1 || (p == 3 || p == 12)) 16 ≡ codes "[1,3,12]"
unfolding opened
three = refl

none : numbers (λ p. p == 17) 16 ≡ codes "[]"
unfolding opened
none = refl

-- of 64 detectors, no 65th is told
detectors : numbers (λ d. d == 64 || d == 65) 64 ≡ codes "[64]"
unfolding opened
detectors = refl

-- ## Preempts

dwells : preempts_text (λ n. if n == 2 then preempt_states.Dwell else preempt_states.NotActive) ≡ codes "[\"notActive\",\"dwell\",\"notActive\",\"notActive\"]"
unfolding opened
dwells = refl

-- with another one the line has all of them
all_told : preempts_text (λ n. if n == 6 then preempt_states.Dwell else preempt_states.NotActive)
    ≡ codes "[\"notActive\",\"notActive\",\"notActive\",\"notActive\",\"notActive\",\"dwell\",\"notActive\",\"notActive\"]"
unfolding opened
all_told = refl

-- ## Waits

for_gap : wait_text 4 (waits.Green 2 (lacks.Gap 12)) ≡ codes "{\"phase\":4,\"for\":\"green\",\"of\":2,\"lack\":\"gap\",\"left\":12}"
unfolding opened
for_gap = refl

for_force_off : wait_text 8 (waits.Green 6 lacks.ForceOff) ≡ codes "{\"phase\":8,\"for\":\"green\",\"of\":6,\"lack\":\"forceOff\"}"
unfolding opened
for_force_off = refl

no_keeper : wait_text 7 (waits.Barrier None) ≡ codes "{\"phase\":7,\"for\":\"barrier\",\"of\":null}"
unfolding opened
no_keeper = refl

two_wait : waits_text (λ p. if p == 3 then Some waits.Turn else (if p == 4 then Some (waits.Preempted 1) else None))
    ≡ codes "[{\"phase\":3,\"for\":\"turn\"},{\"phase\":4,\"for\":\"preempted\",\"preempt\":1}]"
unfolding opened
two_wait = refl
