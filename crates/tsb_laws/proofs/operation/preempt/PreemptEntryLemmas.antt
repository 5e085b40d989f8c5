-- Under a preempt only what it wants enters, and what rings were committed to before. Proves
-- `preempts_let_in_their_own`.
use Rattle.std.proofs.Common.{◌≡◌, ℕ, Bool, true, false, not, List, Option, Some, None, option_map, refl, sym, ap, subst, ◌∙◌, inl, inr, ◌⊎◌}
use Rattle.std.proofs.lemmas.Bool.{and_parts}
use Rattle.tsb_step.specs.tsb_types.declared.row.Row.{Row}
use Rattle.tsb_step.specs.tsb_types.Lists.{is}
use Rattle.tsb_step.specs.tsb_plan.Plan.{Plan, is_enabled}
use Rattle.tsb_step.specs.tsb_preempt.Service.{Service, stage_phases}
use Rattle.tsb_step.specs.tsb_preempt.Preempts as preempts
use Rattle.tsb_step.specs.tsb_ring.Rings as rings
use Rattle.tsb_step.specs.tsb_ring.Rings.{Ring}
use Rattle.tsb_step.specs.tsb_ring.Wants.{is_targeted, pick}
use Rattle.tsb_step.specs.tsb_ring.Next.{new_commitment, next as rings_next}
use Rattle.tsb_step.specs.tsb_ring.Moves.{is_started}
use Rattle.tsb_step.specs.tsb_ring.Laws.{IsSymmetric, IsPairwiseConcurrent}
use Rattle.tsb_step.proofs.tsb_ring.SoundLemmas.{Commits, enters, stands, makes, commits, new_commits}
use Rattle.tsb_step.specs.declared.inputs.Input.{Input}
use Rattle.tsb_step.specs.declared.inputs.Input.TheVariants.{Tick}
use Rattle.tsb_step.specs.State.{State}
use Rattle.tsb_step.specs.Tick.{preempts_given, preempts_read, new_service, service, target, must_end, rings_given, moves, yellow_done, after_moves}
use Rattle.tsb_step.specs.Step.{step}
use Rattle.tsb_step.specs.Runs.{replay, AreTaken}
use Rattle.tsb_step.specs.Laws.{IsConsistent}
use Rattle.tsb_step.specs.Good.{IsGood}
use Rattle.tsb_step.proofs.GivenLemmas.{symmetric, given}
use Rattle.tsb_step.proofs.GiveUpLemmas.{committed_by_moves}
use Rattle.tsb_step.proofs.GoodLemmas.{good_run}
use Rattle.tsb_step.proofs.StandLemmas.{rings_then}
use Rattle.tsb_laws.specs.PreemptEntries.{EntersByPreempt}
use Rattle.tsb_laws.proofs.safety.IntergreenLemmas.{started_now}
use Rattle.tsb_laws.proofs.operation.step.StartLemmas.{picked_or_bound}
use Rattle.tsb_laws.proofs.operation.preempt.TargetLemmas.{picks_wanted, enters_wanted}

-- the list of the preempt in service, in this tick
pub record Asks (s : State) (row : Row) : Type 0 where
  pub list : ℕ → Bool
  pub is_target : target s row ≡ Some list

pub asked : (s : State) (row : Row) (n : ℕ) → service s row ≡ Some n → Asks s row
unfolding new_service
asked s row n h = go (preempts.new_service s.plan (preempts_given s row) (preempts_read s)) refl h
  where
    go : (o : Option Service) → preempts.new_service s.plan (preempts_given s row) (preempts_read s) ≡ o → option_map (λ (x : Service). x.preempt) o ≡ Some n →
        Asks s row
    go None e k = absurd cc
    go (Some x) e k = record {
      list = stage_phases s.plan x.preempt x.stage;
      is_target = ap (λ (o : Option Service). preempts.wanted_by s.plan o) e;
    }

module _ (s : State) (row : Row) (good : IsGood s) (it : Asks s row) where
  pub told : (rings_given s row).target ≡ Some it.list
  unfolding rings_given
  told = it.is_target

  pub pairs : IsPairwiseConcurrent s.plan (Some it.list)
  pairs = subst (λ (t : Option (ℕ → Bool)). IsPairwiseConcurrent s.plan t) told (given s row good).pairwise

  in_list : (q : ℕ) → is_targeted s.plan it.list q ≡ true → must_end s row q ≡ false
  in_list q h =
      ap (λ (o : Option (ℕ → Bool)). preempts.is_outside o q) it.is_target ∙ ap not (and_parts (is_enabled s.plan q) (it.list q) h).1

  picked : (r : Ring) (q : ℕ) → pick s.plan s.rings (rings_given s row) r ≡ Some q → must_end s row q ≡ false
  picked r q h = in_list q (picks_wanted s.plan s.rings (rings_given s row) it.list told r q h)

  pub starts_own : (q : ℕ) → is_started (moves s row) q ≡ true → (must_end s row q ≡ false) ⊎ ((x : Ring) × (s.rings.commitment x ≡ Some q))
  starts_own q h = picked_or_bound s row (λ x. must_end s row x ≡ false) picked q h

  even : IsSymmetric s.plan
  even = symmetric s.plan good.plan.rules

  -- by its moves
  pub moves_own : (r : Ring) (q : ℕ) → (after_moves s row).rings.commitment r ≡ Some q →
      (must_end s row q ≡ false) ⊎ (s.rings.commitment r ≡ Some q)
  unfolding rings_given rings_next
  moves_own r q h =
      go (commits s.plan s.rings (rings_given s row) (yellow_done s) even good.rings (given s row good) r q
      (new_commits s.plan s.rings (rings_given s row) (yellow_done s) even good.rings (given s row good) r q now).1)
    where
      now : new_commitment s.plan s.rings (rings_given s row) r ≡ Some q
      now = h

      go : Commits s.plan s.rings (rings_given s row) (yellow_done s) even good.rings (given s row good) r q →
          (must_end s row q ≡ false) ⊎ (s.rings.commitment r ≡ Some q)
      go (enters b e) = inl (in_list q (enters_wanted s.plan s.rings (rings_given s row) it.list told r q e).1)
      go (stands b e) = inr e
      go (makes b e) = inl (picked r q e)

  -- and after the tick
  pub commits_own : (r : Ring) (q : ℕ) → s.trip ≡ None → (step s (Tick row)).rings.commitment r ≡ Some q →
      (must_end s row q ≡ false) ⊎ (s.rings.commitment r ≡ Some q)
  commits_own r q dark h = moves_own r q (committed_by_moves s row r q (sym (ap (λ (x : rings.State). x.commitment r) (rings_then s row dark)) ∙ h))

pub lets_in_its_own : (plan : Plan) (is : List Input) (row : Row) (n q : ℕ) → IsConsistent plan → AreTaken plan is →
    (replay plan is).trip ≡ None → service (replay plan is) row ≡ Some n → EntersByPreempt plan is row q
lets_in_its_own plan is row n q ok taken dark h = record {
  starts = λ x. starts_own (replay plan is) row (good_run plan is ok taken) (asked (replay plan is) row n h) q (started_now plan is row q ok taken x);
  commits = λ r k. commits_own (replay plan is) row (good_run plan is ok taken) (asked (replay plan is) row n h) r q dark k;
}
