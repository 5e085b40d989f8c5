-- What a tick starts was not in service: a phase does not start again in the tick that ends it.
use Rattle.std.proofs.Common.{◌≡◌, ℕ, true, false, List, Option, Some, None, refl, sym, ap, ◌∙◌, inl, inr}
use Rattle.std.proofs.lemmas.Bool.{cases_Bool, or_cases}
use Rattle.tsb_step.specs.tsb_types.declared.row.Row.{Row}
use Rattle.tsb_step.specs.tsb_types.Intervals.{in_service}
use Rattle.tsb_step.specs.tsb_types.Lists.{is}
use Rattle.tsb_step.specs.tsb_plan.Plan.{Plan}
use Rattle.tsb_step.specs.tsb_ring.Rings.{Ring, Ring1, Ring2, serving}
use Rattle.tsb_step.specs.tsb_ring.Wants.{pick}
use Rattle.tsb_step.specs.tsb_ring.Next.{idle_pick, starting}
use Rattle.tsb_step.specs.tsb_ring.Moves as moving
use Rattle.tsb_step.specs.tsb_ring.Moves.{is_started}
use Rattle.tsb_step.proofs.tsb_ring.ActLemmas.{starts_alone}
use Rattle.tsb_step.proofs.tsb_ring.MoveLemmas.{is-Some}
use Rattle.tsb_step.proofs.tsb_ring.SoundLemmas.{Starting, starting_is}
use Rattle.tsb_step.proofs.tsb_ring.WaitLemmas.{is_serving}
use Rattle.tsb_step.specs.declared.inputs.Input.{Input}
use Rattle.tsb_step.specs.State.{State, interval}
use Rattle.tsb_step.specs.Tick.{rings_given, moves, yellow_done}
use Rattle.tsb_step.specs.Runs.{replay, AreTaken}
use Rattle.tsb_step.specs.Laws.{IsConsistent}
use Rattle.tsb_step.specs.TimeLaws.{IsSided}
use Rattle.tsb_step.specs.Good.{IsGood}
use Rattle.tsb_step.proofs.GivenLemmas.{symmetric, given}
use Rattle.tsb_step.proofs.GoodLemmas.{good_run}
use Rattle.tsb_step.proofs.SideRunLemmas.{sided_run}
use Rattle.tsb_laws.specs.CrossingGreens.{IsCalm}
use Rattle.tsb_laws.proofs.operation.step.CalmLemmas.{calm_run}
use Rattle.tsb_laws.proofs.operation.step.AcrossLemmas.{GoesAcross, across_run, promised_red}

module _ (s : State) (row : Row) (good : IsGood s) (calm : IsCalm s.plan (interval s) s.rings) (sided : IsSided s.plan (interval s) s.rings) (across : GoesAcross s.plan (interval s) s.rings) where
  -- a ring that is not committed starts a phase only while it serves none
  idle : (r : Ring) (p : ℕ) → s.rings.commitment r ≡ None → starting s.plan s.rings (rings_given s row) r ≡ Some p →
      serving s.plan (rings_given s row) r ≡ None
  unfolding starting
  idle r p none h = go (serving s.plan (rings_given s row) r) refl (rw none at h)
    where
      go : (o : Option ℕ) → serving s.plan (rings_given s row) r ≡ o → idle_pick o (pick s.plan s.rings (rings_given s row) r) ≡ Some p →
          serving s.plan (rings_given s row) r ≡ None
      go None e k = e
      go (Some q) e k = absurd cc

  free_start : (r : Ring) (p : ℕ) → s.rings.commitment r ≡ None → starting s.plan s.rings (rings_given s row) r ≡ Some p →
      in_service (interval s p) ≡ false
  unfolding rings_given
  free_start r p none h =
      elim (cases_Bool (in_service (interval s p))) [
        | inr k ↦ k
        | inl k ↦ (let it : Starting s.plan s.rings (rings_given s row) r p =
            starting_is s.plan s.rings (rings_given s row) (yellow_done s) (symmetric s.plan good.plan.rules) good.rings (given s row good) r p h in
            let bad : None ≡ Some p = sym (idle r p none h) ∙ is_serving s.plan s.rings (rings_given s row) r p good.rings it.ringed k in
            absurd cc)
      ]

  ring_starts_fresh : (r : Ring) (p : ℕ) → starting s.plan s.rings (rings_given s row) r ≡ Some p → in_service (interval s p) ≡ false
  ring_starts_fresh r p h = go (s.rings.commitment r) refl
    where
      go : (o : Option ℕ) → s.rings.commitment r ≡ o → in_service (interval s p) ≡ false
      go None e = free_start r p e h
      go (Some c) e =
          let same : p ≡ c = starts_alone s.plan s.rings (rings_given s row) r c p e h in
          ap (λ (q : ℕ). in_service (interval s q)) same ∙ promised_red s r c calm sided across e

  starts_fresh : (p : ℕ) → is_started (moves s row) p ≡ true → in_service (interval s p) ≡ false
  unfolding moves moving.moves
  starts_fresh p h =
      elim (or_cases (is p (starting s.plan s.rings (rings_given s row) Ring1)) (is p (starting s.plan s.rings (rings_given s row) Ring2)) h) [
        | inl k ↦ ring_starts_fresh Ring1 p (is-Some p (starting s.plan s.rings (rings_given s row) Ring1) k)
        | inr k ↦ ring_starts_fresh Ring2 p (is-Some p (starting s.plan s.rings (rings_given s row) Ring2) k)
      ]

-- the same after every run
pub fresh_start : (plan : Plan) (is : List Input) (row : Row) (p : ℕ) → IsConsistent plan → AreTaken plan is →
    is_started (moves (replay plan is) row) p ≡ true → in_service (interval (replay plan is) p) ≡ false
fresh_start plan is row p ok taken h =
    starts_fresh (replay plan is) row (good_run plan is ok taken) (calm_run plan is ok taken) (sided_run plan is ok taken) (across_run plan is ok taken) p h
