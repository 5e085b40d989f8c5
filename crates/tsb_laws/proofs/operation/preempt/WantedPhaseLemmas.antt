-- A phase that the preempt in service wants, and that may start, starts, or is kept by another phase or by a ring.
-- Proves `wanted_phases_start`.
use Rattle.std.proofs.Common.{◌≡◌, ℕ, ◌≤◌, Bool, true, false, not, ◌&&◌, List, ◌∷◌, Option, Some, None, refl, sym, ap, ◌∙◌, inl, inr, ◌⊎◌, arith}
use Rattle.std.proofs.lemmas.Bool.{true≢false, eq-eqb, or_right, or_left}
use Rattle.tsb_step.specs.tsb_types.declared.interval.Interval.TheVariants.{Green}
use Rattle.tsb_step.specs.tsb_types.declared.row.Row.{Row}
use Rattle.tsb_step.specs.tsb_types.Lists.{is}
use Rattle.tsb_step.specs.tsb_plan.Plan.{Plan, is_enabled}
use Rattle.tsb_step.specs.tsb_preempt.Preempts as preempts
use Rattle.tsb_step.specs.tsb_ring.Rings.{Ring, Ring1, Ring2, serving}
use Rattle.tsb_step.specs.tsb_ring.Wants.{is_targeted}
use Rattle.tsb_step.specs.tsb_ring.Next.{starting}
use Rattle.tsb_step.specs.tsb_ring.Moves as moving
use Rattle.tsb_step.specs.tsb_ring.Moves.{is_started}
use Rattle.tsb_step.specs.tsb_ring.Laws.{IsListed}
use Rattle.tsb_step.specs.declared.inputs.Input.{Input}
use Rattle.tsb_step.specs.declared.inputs.Input.TheVariants.{Tick}
use Rattle.tsb_step.specs.State.{State, interval}
use Rattle.tsb_step.specs.Tick.{service, reverted, rings_given, moves}
use Rattle.tsb_step.specs.Step.{step}
use Rattle.tsb_step.specs.Runs.{replay, AreTaken}
use Rattle.tsb_step.specs.Laws.{IsConsistent}
use Rattle.tsb_step.specs.Good.{IsGood}
use Rattle.tsb_step.proofs.GivenLemmas.{enabled_is_listed}
use Rattle.tsb_step.proofs.GoodLemmas.{good_run}
use Rattle.tsb_laws.specs.WantedStarts.{MayStart, IsKeptBy, a_phase, a_commitment}
use Rattle.tsb_laws.proofs.safety.DueLemmas.{count_run, clipped_at}
use Rattle.tsb_laws.proofs.operation.step.TickLemmas.{turns_green}
use Rattle.tsb_laws.proofs.operation.preempt.PreemptEntryLemmas.{Asks, asked, told, pairs}
use Rattle.tsb_laws.proofs.operation.preempt.PressLemmas.{serving_is}
use Rattle.tsb_laws.proofs.operation.preempt.WantedStartLemmas.{Blocks, serves_one, commits_one, starts_or_waits}

is_in : (a b : Bool) → a ≡ true → not b ≡ false → (a && b) ≡ true
is_in true true e h = refl
is_in true false e h = absurd (true≢false h)
is_in false b e h = absurd (true≢false (sym e))

module _ (s : State) (row : Row) (r : Ring) (p : ℕ) (good : IsGood s) (few : s.plan.phase_count ≤ 16) (dark : s.trip ≡ None) (it : Asks s row) (due : MayStart s row r p) where
  listed : IsListed s.plan p
  listed = enabled_is_listed s.plan good.plan p due.enabled

  targeted : is_targeted s.plan it.list p ≡ true
  targeted =
      is_in (is_enabled s.plan p) (it.list p) due.enabled (sym (ap (λ (o : Option (ℕ → Bool)). preempts.is_outside o p) it.is_target) ∙ due.wanted)

  serves_none : serving s.plan (rings_given s row) r ≡ None
  unfolding rings_given
  serves_none = go (serving s.plan (rings_given s row) r) refl
    where
      go : (o : Option ℕ) → serving s.plan (rings_given s row) r ≡ o → serving s.plan (rings_given s row) r ≡ None
      go None e = e
      go (Some q) e = let both = serving_is s.plan (rings_given s row) r q e in absurd (true≢false (sym both.1 ∙ due.idle q both.0))

  told_passed : (rings_given s row).reverted p ≡ true
  unfolding rings_given
  told_passed = clipped_at (reverted s) s.plan p few listed ∙ due.passed

  started : (x : Ring) → starting s.plan s.rings (rings_given s row) x ≡ Some p → is_started (moves s row) p ≡ true
  unfolding moves moving.moves
  started Ring1 e =
      or_left (is p (starting s.plan s.rings (rings_given s row) Ring1)) (is p (starting s.plan s.rings (rings_given s row) Ring2)) (rw e (eq-eqb p p refl))
  started Ring2 e =
      or_right (is p (starting s.plan s.rings (rings_given s row) Ring1)) (is p (starting s.plan s.rings (rings_given s row) Ring2)) (rw e (eq-eqb p p refl))

  kept : Blocks s.rings s.plan (rings_given s row) p → IsKeptBy s p
  unfolding rings_given
  kept (serves_one x q e apart) = a_phase q (serving_is s.plan (rings_given s row) x q e).1 apart
  kept (commits_one x c e) = a_commitment x c e

  starts_or_kept : (interval (step s (Tick row)) p ≡ Green) ⊎ IsKeptBy s p
  starts_or_kept = go (s.rings.commitment r) refl
    where
      go : (o : Option ℕ) → s.rings.commitment r ≡ o → (interval (step s (Tick row)) p ≡ Green) ⊎ IsKeptBy s p
      go (Some c) e = inr (a_commitment r c e)
      go None e =
          elim (starts_or_waits s.plan s.rings (rings_given s row) it.list (told s row good it) good.plan.rules (pairs s row good it) r p due.ringed listed
          targeted due.beside due.outside e serves_none told_passed) [
            | inl k ↦ inl (turns_green s row p good dark (started r k)).turns
            | inr k ↦ inr (kept k)
          ]

pub wanted_starts : (plan : Plan) (is : List Input) (row : Row) (n : ℕ) (r : Ring) (p : ℕ) → IsConsistent plan → plan.phase_count ≤ 16 → AreTaken plan is →
    (replay plan is).trip ≡ None → service (replay plan is) row ≡ Some n → MayStart (replay plan is) row r p →
    (interval (replay plan (Tick row ∷ is)) p ≡ Green) ⊎ IsKeptBy (replay plan is) p
wanted_starts plan is row n r p ok few taken dark h due =
    starts_or_kept (replay plan is) row r p (good_run plan is ok taken) few_now dark (asked (replay plan is) row n h) due
  where
    few_now : (replay plan is).plan.phase_count ≤ 16
    few_now = let same = count_run plan is in omega (arith, same, few)
