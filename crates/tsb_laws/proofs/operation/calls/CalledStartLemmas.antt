-- Where no preempt is in service only what is called enters, what dual entry lets in, and what rings were committed to.
-- For `uncalled_phases_stay`.
use Rattle.std.proofs.Common.{◌≡◌, ℕ, Bool, true, false, ◌&&◌, List, Option, Some, None, option_map, is_none, refl, sym, ap, ◌∙◌, inl, inr, ◌⊎◌}
use Rattle.std.proofs.lemmas.Bool.{and_parts, false≢true}
use Rattle.std.proofs.lemmas.Option.{cond_some}
use Rattle.tsb_step.specs.tsb_types.declared.row.Row.{Row}
use Rattle.tsb_step.specs.tsb_types.Lists.{is, or_else}
use Rattle.tsb_step.specs.tsb_plan.Plan.{Plan, has_dual_entry, is_enabled}
use Rattle.tsb_step.specs.tsb_preempt.Service.{Service}
use Rattle.tsb_step.specs.tsb_preempt.Preempts as preempts
use Rattle.tsb_step.specs.tsb_ring.declared.want.Want.{Want}
use Rattle.tsb_step.specs.tsb_ring.declared.want.Want.TheVariants.{Go}
use Rattle.tsb_step.specs.tsb_ring.Rings as rings
use Rattle.tsb_step.specs.tsb_ring.Rings.{Ring, Ring1, Ring2, Given, in_ring, serving}
use Rattle.tsb_step.specs.tsb_ring.Wants.{concurrent_with, fits, is_idle_or_green, is_on_side, pick, picked_before, want, want_by_calls, want_found, want_of}
use Rattle.tsb_step.specs.tsb_ring.Crossings.{called_in_ring_1, called_in_ring_2, dual, entry, entry_by_calls, entry_for, is_called_in, may_enter, target_side}
use Rattle.tsb_step.specs.tsb_ring.Next.{new_commitment, next as rings_next}
use Rattle.tsb_step.specs.tsb_ring.Moves.{is_started}
use Rattle.tsb_step.specs.tsb_ring.Laws.{IsSymmetric}
use Rattle.tsb_step.proofs.tsb_ring.SoundLemmas.{Commits, enters, stands, makes, commits, new_commits}
use Rattle.tsb_step.proofs.tsb_ring.WaitLemmas.{called_candidate, first-passes}
use Rattle.tsb_step.proofs.tsb_ring.WantLemmas.{and_four, pick_want}
use Rattle.tsb_step.specs.declared.inputs.Input.{Input}
use Rattle.tsb_step.specs.declared.inputs.Input.TheVariants.{Tick}
use Rattle.tsb_step.specs.State.{State}
use Rattle.tsb_step.specs.Tick.{callable, preempts_given, preempts_read, new_service, service, target, rings_given, moves, yellow_done}
use Rattle.tsb_step.specs.Step.{step}
use Rattle.tsb_step.specs.Runs.{replay, AreTaken}
use Rattle.tsb_step.specs.Laws.{IsConsistent}
use Rattle.tsb_step.specs.Good.{IsGood}
use Rattle.tsb_step.proofs.GivenLemmas.{symmetric, given}
use Rattle.tsb_step.proofs.GiveUpLemmas.{committed_by_moves}
use Rattle.tsb_step.proofs.GoodLemmas.{good_run}
use Rattle.tsb_step.proofs.StandLemmas.{rings_then}
use Rattle.tsb_laws.specs.CalledStarts.{EntersByCall}
use Rattle.tsb_laws.proofs.safety.IntergreenLemmas.{started_now}
use Rattle.tsb_laws.proofs.operation.step.StartLemmas.{picked_or_bound}

-- ## Tests of several parts

third : (a b c : Bool) → (a && b && c) ≡ true → c ≡ true
third true true c h = h
third true false c h = absurd (false≢true h)
third false b c h = absurd (false≢true h)

fourth : (a b c d e f : Bool) → (a && b && c && d && e && f) ≡ true → d ≡ true
fourth true true true true e f h = refl
fourth true true true false e f h = absurd (false≢true h)
fourth true true false d e f h = absurd (false≢true h)
fourth true false c d e f h = absurd (false≢true h)
fourth false b c d e f h = absurd (false≢true h)

-- ## What a ring picks, and what it enters a crossing for

module _ (plan : Plan) (s : rings.State) (given : Given) (free : given.target ≡ None) where
  found_is : (r : Ring) (w : Want) → want_of plan s given r ≡ Some w → want_by_calls plan s given r (picked_before plan s given r) ≡ w
  unfolding want_of want
  found_is r w h =
      ap (λ (t : Option (ℕ → Bool)). want_found plan s given r (picked_before plan s given r) t) (sym free)
      ∙ (cond_some (is_none s.crossing && is_none (s.commitment r) && is_idle_or_green given (serving plan given r))
      (want_found plan s given r (picked_before plan s given r) given.target) w h).1

  pub picks_called : (r : Ring) (c : ℕ) → pick plan s given r ≡ Some c → given.callable c ≡ true
  picks_called r c h =
      (and_four (in_ring plan r c) (is_on_side plan s.side c) (given.callable c) (fits plan s given r (picked_before plan s given r) c)
      (called_candidate plan s given r (picked_before plan s given r) c (found_is r (Go c) (pick_want plan s given r c h)))).2

  called_1 : (d c : ℕ) → called_in_ring_1 plan given d ≡ Some c → given.callable c ≡ true
  called_1 d c h =
      third (in_ring plan Ring1 c) (is_on_side plan d c) (given.callable c) (first-passes (is_called_in plan given d Ring1) (given.sequence Ring1) c h)

  called_2 : (d c : ℕ) → called_in_ring_2 plan given d ≡ Some c → given.callable c ≡ true
  called_2 d c h =
      third (in_ring plan Ring2 c) (is_on_side plan d c) (given.callable c)
      (and_parts (is_called_in plan given d Ring2 c) (concurrent_with plan c (called_in_ring_1 plan given d))
      (first-passes (λ p. is_called_in plan given d Ring2 p && concurrent_with plan p (called_in_ring_1 plan given d)) (given.sequence Ring2) c h)).0

  dual_is : (d : ℕ) (r : Ring) (o : Option ℕ) (c : ℕ) → dual plan given d r o ≡ Some c → has_dual_entry plan c ≡ true
  dual_is d r None c h = absurd cc
  dual_is d r (Some q) c h =
      fourth (in_ring plan r c) (is_on_side plan d c) (is_enabled plan c) (has_dual_entry plan c) _ _ (first-passes (may_enter plan given d r q) (given.sequence r) c h)

  one_or : (found beside : Option ℕ) (c : ℕ) → (found ≡ Some c → given.callable c ≡ true) → (beside ≡ Some c → has_dual_entry plan c ≡ true) →
      or_else found beside ≡ Some c → (given.callable c ≡ true) ⊎ (has_dual_entry plan c ≡ true)
  one_or None beside c called let_in h = inr (let_in h)
  one_or (Some x) beside c called let_in h = inl (called h)

  by_calls : (d : ℕ) (r : Ring) (c : ℕ) → entry_by_calls plan given d r ≡ Some c → (given.callable c ≡ true) ⊎ (has_dual_entry plan c ≡ true)
  by_calls d Ring1 c h =
      one_or (called_in_ring_1 plan given d) (dual plan given d Ring1 (called_in_ring_2 plan given d)) c (called_1 d c) (dual_is d Ring1 (called_in_ring_2 plan given d) c) h
  by_calls d Ring2 c h =
      one_or (called_in_ring_2 plan given d) (dual plan given d Ring2 (called_in_ring_1 plan given d)) c (called_2 d c) (dual_is d Ring2 (called_in_ring_1 plan given d) c) h

  pub enters_called : (r : Ring) (c : ℕ) → entry plan s given r ≡ Some c → (given.callable c ≡ true) ⊎ (has_dual_entry plan c ≡ true)
  unfolding entry
  enters_called r c h = by_calls (target_side plan s given) r c (sym (ap (λ (t : Option (ℕ → Bool)). entry_for plan s given r t) free) ∙ h)

-- ## A tick

-- where no preempt is in service, nothing is wanted
unasked : (s : State) (row : Row) → service s row ≡ None → target s row ≡ None
unfolding new_service
unasked s row h = go (preempts.new_service s.plan (preempts_given s row) (preempts_read s)) refl h
  where
    go : (o : Option Service) → preempts.new_service s.plan (preempts_given s row) (preempts_read s) ≡ o → option_map (λ (x : Service). x.preempt) o ≡ None →
        target s row ≡ None
    go None e k = ap (λ (o : Option Service). preempts.wanted_by s.plan o) e
    go (Some x) e k = absurd cc

module _ (s : State) (row : Row) (good : IsGood s) (idle : service s row ≡ None) where
  told : (rings_given s row).target ≡ None
  unfolding rings_given
  told = unasked s row idle

  is_callable : (q : ℕ) → (rings_given s row).callable q ≡ true → callable s row q ≡ true
  unfolding rings_given
  is_callable q h = (and_parts _ (callable s row q) h).1

  picked : (r : Ring) (q : ℕ) → pick s.plan s.rings (rings_given s row) r ≡ Some q → callable s row q ≡ true
  picked r q h = is_callable q (picks_called s.plan s.rings (rings_given s row) told r q h)

  pub starts_own : (q : ℕ) → is_started (moves s row) q ≡ true → (callable s row q ≡ true) ⊎ ((x : Ring) × (s.rings.commitment x ≡ Some q))
  starts_own q h = picked_or_bound s row (λ x. callable s row x ≡ true) picked q h

  even : IsSymmetric s.plan
  even = symmetric s.plan good.plan.rules

  let_in : (r : Ring) (q : ℕ) → entry s.plan s.rings (rings_given s row) r ≡ Some q → (callable s row q ≡ true) ⊎ (has_dual_entry s.plan q ≡ true)
  let_in r q h =
      elim (enters_called s.plan s.rings (rings_given s row) told r q h) [
        | inl k ↦ inl (is_callable q k)
        | inr k ↦ inr k
      ]

  pub commits_own : (r : Ring) (q : ℕ) → s.trip ≡ None → (step s (Tick row)).rings.commitment r ≡ Some q →
      ((callable s row q ≡ true) ⊎ (has_dual_entry s.plan q ≡ true)) ⊎ (s.rings.commitment r ≡ Some q)
  unfolding rings_given rings_next
  commits_own r q dark h =
      go (commits s.plan s.rings (rings_given s row) (yellow_done s) even good.rings (given s row good) r q
      (new_commits s.plan s.rings (rings_given s row) (yellow_done s) even good.rings (given s row good) r q now).1)
    where
      now : new_commitment s.plan s.rings (rings_given s row) r ≡ Some q
      now = committed_by_moves s row r q (sym (ap (λ (x : rings.State). x.commitment r) (rings_then s row dark)) ∙ h)

      go : Commits s.plan s.rings (rings_given s row) (yellow_done s) even good.rings (given s row good) r q →
          ((callable s row q ≡ true) ⊎ (has_dual_entry s.plan q ≡ true)) ⊎ (s.rings.commitment r ≡ Some q)
      go (enters b e) = inl (let_in r q e)
      go (stands b e) = inr e
      go (makes b e) = inl (inl (picked r q e))

pub enters_by_call : (plan : Plan) (is : List Input) (row : Row) (q : ℕ) → IsConsistent plan → AreTaken plan is →
    (replay plan is).trip ≡ None → service (replay plan is) row ≡ None → EntersByCall plan is row q
enters_by_call plan is row q ok taken dark idle = record {
  starts = λ x. starts_own (replay plan is) row (good_run plan is ok taken) idle q (started_now plan is row q ok taken x);
  commits = λ r k. commits_own (replay plan is) row (good_run plan is ok taken) idle r q dark k;
}
