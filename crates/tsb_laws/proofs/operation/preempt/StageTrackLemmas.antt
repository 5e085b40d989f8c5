-- A preempt in service that is in Track, in a tick and through inputs that are no tick: its track green runs. For the
-- laws that preempts reach their dwell.
use Rattle.std.proofs.Common.{◌≡◌, ℕ, ◌-◌, ◌<◌, ◌==◌, Bool, true, false, not, ◌&&◌, if◌then◌else◌, Option, Some, None, is_some, refl, sym, ap, ◌∙◌, inl, inr, ◌⊎◌, arith}
use Rattle.std.proofs.lemmas.Bool.{and_parts, eq-eqb, eqb-true, true≢false, false≢true}
use Rattle.tsb_step.specs.tsb_cells.Timer.{advanced, has_reached}
use Rattle.tsb_step.specs.tsb_types.declared.row.Row.{Row}
use Rattle.tsb_step.specs.tsb_types.declared.stage.Stage.{Stage}
use Rattle.tsb_step.specs.tsb_types.declared.stage.Stage.TheVariants.{Track, Dwell, Exit}
use Rattle.tsb_step.specs.tsb_plan.Parts.{track_green}
use Rattle.tsb_step.specs.tsb_preempt.Preempts as preempts
use Rattle.tsb_step.specs.tsb_preempt.Preempts.{is_exit}
use Rattle.tsb_step.specs.tsb_preempt.Service.{Service, service_as_read, begun, track_timer, ends_track, stage_after, with_stage}
use Rattle.tsb_step.specs.declared.inputs.Input.{Input}
use Rattle.tsb_step.specs.declared.inputs.Input.TheVariants as inputs
use Rattle.tsb_step.specs.declared.inputs.Input.TheVariants.{Tick}
use Rattle.tsb_step.specs.State.{State, interval, restarted}
use Rattle.tsb_step.specs.Tick.{preempts_given, preempts_read}
use Rattle.tsb_step.specs.Step.{step, kind_of}
use Rattle.tsb_step.specs.Past.{ticks_of}
use Rattle.tsb_laws.specs.PreemptDwells.{is_served}
use Rattle.tsb_laws.specs.PreemptTurns.{place}
use Rattle.tsb_laws.specs.PreemptStages.{is_in_stage}
use Rattle.tsb_laws.proofs.operation.preempt.PreemptTurnLemmas.{before_it, may_begin_it, service_then, service_lit}
use Rattle.tsb_laws.proofs.operation.preempt.StageInputLemmas.{same_place}
use Rattle.tsb_laws.proofs.operation.preempt.StageRunLemmas.{read}

-- ## The service

-- an input that is no tick leaves it
pub service_same : (s : State) (i : Input) → s.trip ≡ None → ticks_of (kind_of i) ≡ 0 → (step s i).preempts.service ≡ s.preempts.service
unfolding step
service_same s (inputs.Tick row) dark none = let bad : 1 ≡ 0 = none in absurd (omega (arith, bad))
service_same s (inputs.Fault lamp) dark none = service_lit s lamp
service_same s inputs.Reset dark none = go (is_some s.trip) (ap is_some dark)
  where
    go : (b : Bool) → b ≡ false → (if b then restarted s else s).preempts.service ≡ s.preempts.service
    go true h = absurd (true≢false h)
    go false h = refl
service_same s i dark none = refl

pub served_in : (n : ℕ) (o : Option Service) → is_served n o ≡ true → (is_in_stage n Track o ≡ true) ⊎ (is_in_stage n Dwell o ≡ true)
served_in n None h = absurd (false≢true h)
served_in n (Some x) h = by x.stage refl (and_parts (x.preempt == n) (not (is_exit x.stage)) h).1
  where
    own : (x.preempt == n) ≡ true
    own = (and_parts (x.preempt == n) (not (is_exit x.stage)) h).0

    at : (a b : Stage) → a ≡ b → ((x.preempt == n) && (place a == place b)) ≡ true
    at a b e = rw (own, e) (eq-eqb (place b) (place b) refl)

    by : (a : Stage) → x.stage ≡ a → not (is_exit x.stage) ≡ true → (is_in_stage n Track (Some x) ≡ true) ⊎ (is_in_stage n Dwell (Some x) ≡ true)
    by Track e k = inl (at x.stage Track e)
    by Dwell e k = inr (at x.stage Dwell e)
    by Exit e k = absurd (false≢true (sym (ap (λ (a : Stage). not (is_exit a)) e) ∙ k))

-- one that stays in Track: its stage timer, which has not reached track green
pub record Tracks (s : State) (row : Row) (n : ℕ) (x : Service) : Type 0 where
  pub after : Service
  pub is_after : (step s (Tick row)).preempts.service ≡ Some after
  pub timer : after.stage_timer ≡ track_timer s.plan (interval s) (read x)
  pub goes_on : has_reached (track_timer s.plan (interval s) (read x)) (track_green s.plan n) ≡ false

pub tracks : (s : State) (row : Row) (n : ℕ) (x : Service) → s.trip ≡ None → s.preempts.service ≡ Some x → is_in_stage n Track (Some x) ≡ true →
    is_in_stage n Track (step s (Tick row)).preempts.service ≡ true → Tracks s row n x
unfolding preempts.new_service preempts.beginning
tracks s row n x dark e was now = go (preempts.beginning s.plan (preempts_given s row) (preempts_read s)) refl
  where
    w : preempts.Preempts
    w = preempts_read s

    number : x.preempt ≡ n
    number = eqb-true x.preempt n (and_parts (x.preempt == n) (place x.stage == place Track) was).0

    here : x.stage ≡ Track
    here = same_place x.stage Track (eqb-true (place x.stage) (place Track) (and_parts (x.preempt == n) (place x.stage == place Track) was).1)

    is_read : w.service ≡ Some (read x)
    is_read = ap service_as_read e

    -- it does not begin anew
    begins_not : (m : ℕ) → preempts.if_may_begin w.service (preempts.requesting s.plan (preempts_given s row) w) ≡ Some m → m ≡ n → ⊥
    begins_not m k same =
        by (before_it (read x) m (ap (λ (o : Option Service). preempts.may_begin o m) (sym is_read)
        ∙ may_begin_it w.service (preempts.requesting s.plan (preempts_given s row) w) m k))
      where
        by : (m < x.preempt) ⊎ ((m ≡ x.preempt) × (x.stage ≡ Exit)) → ⊥
        by (inl less) = omega (arith, less, same, number)
        by (inr both) = let bad : Track ≡ Exit = sym here ∙ both.1 in absurd cc

    number_of : (m : ℕ) → is_in_stage n Track (Some (begun s.plan m)) ≡ true → m ≡ n
    number_of m k = eqb-true m n (and_parts (m == n) (place (begun s.plan m).stage == place Track) k).0

    moves_on : preempts.going_on s.plan (preempts_given s row) w w.service
        ≡ with_stage s.plan (interval s) (read x) (if ends_track s.plan (interval s) (read x) then Some Dwell else Some Track)
    moves_on =
        ap (λ (o : Option Service). preempts.going_on s.plan (preempts_given s row) w o) is_read
        ∙ ap (λ (a : Stage). with_stage s.plan (interval s) (read x)
        (stage_after s.plan (interval s) (preempts.has_input (preempts_given s row) w x.preempt) (read x) a)) here

    stays_on : (b : Bool) → ends_track s.plan (interval s) (read x) ≡ b →
        (step s (Tick row)).preempts.service ≡ with_stage s.plan (interval s) (read x) (if b then Some Dwell else Some Track) → Tracks s row n x
    stays_on true k l =
        absurd (false≢true (sym (dwells (x.preempt == n)) ∙ ap (is_in_stage n Track) (sym l) ∙ now))
      where
        dwells : (a : Bool) → (a && (place Dwell == place Track)) ≡ false
        dwells true = refl
        dwells false = refl
    stays_on false k l = record {
      after = record { preempt = x.preempt; stage = Track; timer = advanced x.timer; stage_timer = track_timer s.plan (interval s) (read x) };
      is_after = l;
      timer = refl;
      goes_on = ap (λ (m : ℕ). has_reached (track_timer s.plan (interval s) (read x)) (track_green s.plan m)) (sym number) ∙ k;
    }

    go : (o : Option ℕ) → preempts.beginning s.plan (preempts_given s row) w ≡ o → Tracks s row n x
    go (Some m) k =
        let it : (step s (Tick row)).preempts.service ≡ Some (begun s.plan m) =
        service_then s row dark ∙ ap (λ (o : Option ℕ). preempts.service_by s.plan (preempts_given s row) w o) k in
        absurd (begins_not m k (number_of m (ap (is_in_stage n Track) (sym it) ∙ now)))
    go None k =
        stays_on (ends_track s.plan (interval s) (read x)) refl
        (service_then s row dark ∙ ap (λ (o : Option ℕ). preempts.service_by s.plan (preempts_given s row) w o) k ∙ moves_on)
