-- What rings give up brings a stage no later: commitments of before are gone, and what is wanted is still committed to.
-- For the laws that preempts reach their stages and dwell.
use Rattle.std.proofs.Common.{◌≡◌, ℕ, ◌+◌, ◌-◌, ◌≤◌, Bool, true, false, max, Option, Some, refl, sym, ap, subst, ◌∙◌, inl, inr, ◌⊎◌, arith}
use Rattle.std.proofs.lemmas.Bool.{and_parts, true≢false}
use Rattle.tsb_step.specs.tsb_types.declared.interval.Interval.TheVariants.{Green}
use Rattle.tsb_step.specs.tsb_types.declared.row.Row.{Row}
use Rattle.tsb_step.specs.tsb_types.Intervals.{is_green}
use Rattle.tsb_step.specs.tsb_plan.Plan.{Plan, is_enabled}
use Rattle.tsb_step.specs.tsb_phase.Phase.{Phase}
use Rattle.tsb_step.specs.tsb_ring.GivenUp.{given_up}
use Rattle.tsb_step.specs.tsb_ring.Moves.{is_ended, is_started}
use Rattle.tsb_step.specs.tsb_ring.Rings as rings
use Rattle.tsb_step.specs.tsb_ring.Rings.{Ring}
use Rattle.tsb_step.specs.tsb_ring.Wants.{is_targeted}
use Rattle.tsb_step.proofs.tsb_ring.GivenUpLemmas.{left_of_target, all_stays}
use Rattle.tsb_step.specs.State.{State, interval}
use Rattle.tsb_step.specs.Tick.{target, moves, after_moves, gives_up, next}
use Rattle.tsb_step.proofs.GiveUpHeadLemmas.{rings_given_up}
use Rattle.tsb_step.proofs.GiveUpLemmas.{by_rings}
use Rattle.tsb_laws.proofs.safety.EnabledLemmas.{enabled_next}
use Rattle.tsb_laws.proofs.operation.preempt.StageFactLemmas.{Limits, Within, revert_of, green_of, green_most, revert_sum, Stays, green_after}
use Rattle.tsb_laws.proofs.operation.preempt.StageTickLemmas.{IsClean, IsDirty, begun_green, unwanted_down}
use Rattle.tsb_laws.proofs.operation.preempt.StageArrivalLemmas.{Near, dirty, clean, rested, crosses}

module _ (t : Limits) (list : ℕ → Bool) (plan : Plan) (phases : ℕ → Phase) (s : rings.State) (on : (r : Ring) (c : ℕ) → s.commitment r ≡ Some c → is_enabled plan c ≡ true) where
  -- what is left is wanted
  none_unwanted : (r : Ring) (c : ℕ) → (given_up plan (Some list) s).commitment r ≡ Some c → list c ≡ false → ⊥
  none_unwanted r c h out =
      let wanted : is_targeted plan list c ≡ true = (left_of_target plan list s r c h).0 in
      true≢false (sym (and_parts (is_enabled plan c) (list c) wanted).1 ∙ out)

  -- so greens alone are still to end, for whatever k
  pub dirty_given : (j k e : ℕ) → IsDirty t list plan phases s j e → IsDirty t list plan phases (given_up plan (Some list) s) k e
  dirty_given j k e was = record {
    greens = was.greens;
    soon = λ r c h out. absurd (none_unwanted r c h out);
    late = λ r c h out. absurd (none_unwanted r c h out);
    reverts = was.reverts;
  }

  -- where all commitments are wanted, nothing is given up
  all_left : (m : ℕ) → IsClean t list phases s m → given_up plan (Some list) s ≡ s
  all_left m was = all_stays plan list s (λ r c e. rw (on r c e, was.commits r c e) refl)

  pub near_given : (d : ℕ) → Near t list plan phases s d → Near t list plan phases (given_up plan (Some list) s) d
  near_given d (dirty k e was time) = dirty k e (dirty_given k k e was) time
  near_given d (clean m was time) = subst (λ (x : rings.State). Near t list plan phases x d) (sym (all_left m was)) (clean m was time)
  near_given d (rested was it time) = subst (λ (x : rings.State). Near t list plan phases x d) (sym (all_left 0 was)) (rested was it time)
  near_given d (crosses was it time) = subst (λ (x : rings.State). Near t list plan phases x d) (sym (all_left 0 was)) (crosses was it time)

-- so what the moves bring near is near after the tick
pub near_then : (t : Limits) (list : ℕ → Bool) (s : State) (row : Row) (d : ℕ) → target s row ≡ Some list →
    ((r : Ring) (c : ℕ) → (after_moves s row).rings.commitment r ≡ Some c → is_enabled s.plan c ≡ true) →
    Near t list s.plan (next s row).phases (after_moves s row).rings d → Near t list s.plan (next s row).phases (next s row).rings d
near_then t list s row d asks on was =
    by_rings (λ (x : rings.State). Near t list s.plan (next s row).phases x d) s row was
    (rw asks (near_given t list s.plan (next s row).phases (after_moves s row).rings on d was))

-- ## A tick in which rings give up

begun_in : (i g e : ℕ) → i ≤ g - 1 → g ≤ e + 1 → i ≤ e
begun_in i g e h k = omega (arith, h, k)

gone_on_in : (i j w g e : ℕ) → i ≤ j - 1 → j ≤ max w g → w ≤ e + 1 → g ≤ e + 1 → i ≤ e
gone_on_in i j w g e h k l m = omega (arith, h, k, l, m)

reverts_in : (i y z r v e c : ℕ) → i ≤ y + r → y + z ≤ c → r ≤ v → v ≤ e + 1 → i ≤ e + 1 + c
reverts_in i y z r v e c h k l m = omega (arith, h, k, l, m)

-- greens alone are then to end, and each of them has had a tick
module _ (s : State) (row : Row) (list : ℕ → Bool) (n : ℕ) (x : Stays s row list n) (t : Limits) (w : Within t s.plan n) (e v : ℕ) (walks : t.walks ≤ e + 1) (green : t.green ≤ e + 1) (late : v ≤ e + 1) (most : (p : ℕ) → t.revert p ≤ v) where
  greens_then : (p : ℕ) → list p ≡ false → (is_started (moves s row) p ≡ true) ⊎ ((interval s p ≡ Green) × (is_ended (moves s row) p ≡ false)) →
      green_of t (after_moves s row).phases p ≤ e
  greens_then p out (inl h) = begun_in (green_of t (after_moves s row).phases p) t.green e (begun_green s row list n x t w p h) green
  greens_then p out (inr both) =
      gone_on_in (green_of t (after_moves s row).phases p) (green_of t s.phases p) t.walks t.green e
      (unwanted_down s row list n x t w p out both.0 both.1) (green_most t s.phases p) walks green

  none_left : (r : Ring) (c : ℕ) → (given_up s.plan (Some list) (after_moves s row).rings).commitment r ≡ Some c → list c ≡ false → ⊥
  none_left =
      none_unwanted t list s.plan (after_moves s row).phases (after_moves s row).rings (enabled_next s row x.good x.on).promised

  dirty_by_choice : IsDirty t list s.plan (after_moves s row).phases (given_up s.plan (Some list) (after_moves s row).rings) 0 e
  dirty_by_choice = record {
    greens = λ p h out. greens_then p out (green_after s row p (ap is_green h));
    soon = λ r c h out. absurd (none_left r c h out);
    late = λ r c h out. absurd (none_left r c h out);
    reverts = λ p h. reverts_in (revert_of t (after_moves s row).phases p) (t.yellow p) (t.red p) (t.revert p) v e t.clears
        (revert_sum t (after_moves s row).phases p) (t.clears_most p) (most p) late;
  }

  pub near_by_choice : gives_up s row ≡ true → (d : ℕ) → e + t.clears + 4 ≤ d → Near t list s.plan (next s row).phases (next s row).rings d
  near_by_choice h d time =
      dirty 0 e (subst (λ (y : rings.State). IsDirty t list s.plan (next s row).phases y 0 e) (sym given) dirty_by_choice) time
    where
      given : (next s row).rings ≡ given_up s.plan (Some list) (after_moves s row).rings
      given = rings_given_up s row h ∙ ap (λ (o : Option (ℕ → Bool)). given_up s.plan o (after_moves s row).rings) x.asks
