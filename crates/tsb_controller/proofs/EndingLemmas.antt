-- What ends the greens that a tick ends, by what the layers give of it.
use Rattle.std.proofs.Common.{◌≡◌, ◌≢◌, ℕ, ◌+◌, ◌≤◌, Bool, true, false, not, ◌&&◌, ◌||◌, if◌then◌else◌, List, Option, Some, None, IfSome, is_none, refl, ap, ◌∙◌, inl, inr, slice_index}
use Rattle.std.proofs.lemmas.Bool.Decides.{eqb_tells}
use Rattle.tsb_step.specs.tsb_types.declared.limits.TheConstants.{PREEMPTS}
use Rattle.tsb_step.specs.tsb_types.declared.flow.Intervals.{Intervals}
use Rattle.tsb_step.specs.tsb_types.declared.row.Row.{Row}
use Rattle.tsb_step.specs.tsb_types.Intervals.{is_green}
use Rattle.tsb_step.specs.tsb_plan.Plan.{Plan}
use Rattle.tsb_phase.specs.declared.cause.Cause.{Cause}
use Rattle.tsb_phase.specs.declared.cause.Cause.TheVariants.{ForceOff, Gap, Maximum}
use Rattle.tsb_phase.specs.Causes.{cause}
use Rattle.tsb_phase.specs.Green.{is_gapped}
use Rattle.tsb_phase.specs.Laws.{AgreeOnPhases, IsToldTheSame}
use Rattle.tsb_phase.specs.Pedestrian.{ended_by}
use Rattle.tsb_phase.specs.Phase.{Given, Phase, held_of}
use Rattle.tsb_cells.specs.Timer.{timer_at}
use Rattle.tsb_preempt.specs.Cells.{preempts_in, service_in, stage_in}
use Rattle.tsb_preempt.specs.Preempts.{Preempts, as_read, has_been_served, has_been_served_of, is_preempt}
use Rattle.tsb_preempt.specs.Promises.{given_by}
use Rattle.tsb_preempt.specs.Service.{Service, service_as_read}
use Rattle.tsb_step.specs.Events.{is_cause}
use Rattle.tsb_step.specs.State.{State}
use Rattle.tsb_step.specs.Tick.{preempts_given, preempts_read}
use Rattle.tsb_controller.specs.declared.causes.Causes.{Causes}
use Rattle.tsb_controller.specs.Causes.{AreCausesOf, with_cause}

-- the cause of a green looks at nothing of what is no phase
pub cause-alike : (plan : Plan) (g h : Given) (p : ℕ) (w : Phase) → 1 ≤ p → p ≤ 16 → AgreeOnPhases g h → IsToldTheSame plan g h p →
    is_green w.interval ≡ true → cause plan g p w ≡ cause plan h p w
cause-alike plan g h p w from to same told green =
    let gapped : is_gapped plan g p (held_of w) ≡ is_gapped plan h p (held_of w) = rw green at (told.gapped w) in
    rw (gapped, same.conflict p from to, same.hold p from to, same.forced p from to, same.runs, same.service) refl

pub by-alike : (g h : Given) (p : ℕ) → 1 ≤ p → p ≤ 16 → AgreeOnPhases g h → is_none (ended_by g p) ≡ is_none (ended_by h p)
by-alike g h p from to same = rw (same.must_end p from to, same.service) refl

-- a set for the same phases, with causes that are the same of these
told-alike : (a b : Bool) (c d : Bool) → a ≡ b → (b ≡ true → c ≡ d) → (a && c) ≡ (b && d)
told-alike a true c d e same = rw (e, same refl) refl
told-alike a false c d e same = rw e refl

pub causes-alike : (test other : ℕ → Bool) (found wanted : ℕ → Option Cause) (result : Causes) →
    ((p : ℕ) → 1 ≤ p → p ≤ 16 → test p ≡ other p) → ((p : ℕ) → 1 ≤ p → p ≤ 16 → other p ≡ true → found p ≡ wanted p) →
    AreCausesOf test found result → AreCausesOf other wanted result
causes-alike test other found wanted result tests same are = record {
  gap = λ p from to. are.gap p from to ∙ told-alike (test p) (other p) _ _ (tests p from to) (λ on. ap (is_cause Gap) (same p from to on));
  maximum = λ p from to. are.maximum p from to ∙ told-alike (test p) (other p) _ _ (tests p from to) (λ on. ap (is_cause Maximum) (same p from to on));
  force_off = λ p from to. are.force_off p from to ∙ told-alike (test p) (other p) _ _ (tests p from to) (λ on. ap (is_cause ForceOff) (same p from to on));
}

-- ## Causes found one after the other: `rest` are the phases still to come, and `left` those after phase p

module _ (c : Cause) (ended rest left : ℕ → Bool) (found : ℕ → Option Cause) (told : ℕ → Bool) (p n : ℕ) (had : ended p ≡ true) (first : rest p ≡ true) (taken : left p ≡ false)
    (others : n ≢ p → left n ≡ rest n) (held : told n ≡ ((ended n && not (rest n)) && is_cause c (found n))) where
  -- phase p ended by `e`
  pub found-next : (e : Cause) → found p ≡ Some e → with_cause c p e told n ≡ ((ended n && not (left n)) && is_cause c (found n))
  found-next e is = elim (eqb_tells n p) [
    | inl same ↦
        let before : told p ≡ false = rw (same.1, had, first) at held in
        rw (same.0, same.1, before, had, taken, is) (or-false (is_cause c (Some e)))
    | inr other ↦ rw (other.0, others other.1) held
  ]
    where
      or-false : (b : Bool) → (b || false) ≡ b
      or-false true = refl
      or-false false = refl

  -- no cause was found for it
  pub none-next : found p ≡ None → told n ≡ ((ended n && not (left n)) && is_cause c (found n))
  none-next is = elim (eqb_tells n p) [
    | inl same ↦
        let before : told p ≡ false = rw (same.1, had, first) at held in
        rw (same.1, before, had, taken, is) refl
    | inr other ↦ rw (others other.1) held
  ]

-- ## Whether the preempt in service has been served

-- a preempt in service is one that there is, so that its input is that of the row
pub served-alike : (plan : Plan) (row : Row) (i : Intervals) (s : State) (now : ℕ) (cells : List ℕ) → preempts_in now cells ≡ s.preempts →
    has_been_served plan (given_by row i) (as_read (preempts_in now cells)) ≡ has_been_served plan (preempts_given s row) (preempts_read s)
unfolding preempts_in service_in
served-alike plan row i s now cells same =
    of (as_read (preempts_in now cells)).service (here (is_preempt (slice_index cells (2 + PREEMPTS))) refl)
    ∙ ap (λ (x : Preempts). has_been_served plan (preempts_given s row) (as_read x)) same
  where
    of : (o : Option Service) → IfSome o (λ x. is_preempt x.preempt ≡ true) →
        has_been_served_of plan (given_by row i) (as_read (preempts_in now cells)) o ≡ has_been_served_of plan (preempts_given s row) (as_read (preempts_in now cells)) o
    of None one = refl
    of (Some x) one = rw one refl

    here : (b : Bool) → is_preempt (slice_index cells (2 + PREEMPTS)) ≡ b → IfSome (service_as_read (if b then Some (record {
      preempt = slice_index cells (2 + PREEMPTS);
      stage = stage_in (slice_index cells (3 + PREEMPTS));
      timer = timer_at now (slice_index cells (4 + PREEMPTS));
      stage_timer = timer_at now (slice_index cells (5 + PREEMPTS));
    }) else None)) (λ x. is_preempt x.preempt ≡ true)
    here true e = e
    here false e = tt
