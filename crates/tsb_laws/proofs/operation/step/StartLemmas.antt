-- What a tick starts its ring picked, or was committed to. For `preempts_let_in_their_own` and `uncalled_phases_stay`.
use Rattle.std.proofs.Common.{◌≡◌, ℕ, true, Option, Some, None, refl, sym, ap, ◌∙◌, inl, inr, ◌⊎◌}
use Rattle.std.proofs.lemmas.Bool.{or_cases}
use Rattle.tsb_step.specs.tsb_types.declared.row.Row.{Row}
use Rattle.tsb_step.specs.tsb_types.Lists.{is}
use Rattle.tsb_step.specs.tsb_ring.Rings.{Ring, Ring1, Ring2, serving}
use Rattle.tsb_step.specs.tsb_ring.Wants.{pick}
use Rattle.tsb_step.specs.tsb_ring.Next.{idle_pick, starting}
use Rattle.tsb_step.specs.tsb_ring.Moves as moving
use Rattle.tsb_step.specs.tsb_ring.Moves.{is_started}
use Rattle.tsb_step.proofs.tsb_ring.ActLemmas.{starts_alone}
use Rattle.tsb_step.proofs.tsb_ring.MoveLemmas.{is-Some}
use Rattle.tsb_step.specs.State.{State}
use Rattle.tsb_step.specs.Tick.{rings_given, moves}

module _ (s : State) (row : Row) (Allowed : ℕ → Type 0) (picked : (r : Ring) (q : ℕ) → pick s.plan s.rings (rings_given s row) r ≡ Some q → Allowed q) where
  picks_in : (r : Ring) (q : ℕ) → s.rings.commitment r ≡ None → starting s.plan s.rings (rings_given s row) r ≡ Some q →
      pick s.plan s.rings (rings_given s row) r ≡ Some q
  unfolding starting
  picks_in r q none h = go (serving s.plan (rings_given s row) r) (rw none at h)
    where
      go : (o : Option ℕ) → idle_pick o (pick s.plan s.rings (rings_given s row) r) ≡ Some q → pick s.plan s.rings (rings_given s row) r ≡ Some q
      go None k = k
      go (Some p) k = absurd cc

  ring_starts : (r : Ring) (q : ℕ) → starting s.plan s.rings (rings_given s row) r ≡ Some q →
      Allowed q ⊎ ((x : Ring) × (s.rings.commitment x ≡ Some q))
  ring_starts r q h = go (s.rings.commitment r) refl
    where
      go : (o : Option ℕ) → s.rings.commitment r ≡ o → Allowed q ⊎ ((x : Ring) × (s.rings.commitment x ≡ Some q))
      go None e = inl (picked r q (picks_in r q e h))
      go (Some c) e = let same : q ≡ c = starts_alone s.plan s.rings (rings_given s row) r c q e h in inr (r, e ∙ ap Some (sym same))

  pub picked_or_bound : (q : ℕ) → is_started (moves s row) q ≡ true → Allowed q ⊎ ((x : Ring) × (s.rings.commitment x ≡ Some q))
  unfolding moves moving.moves
  picked_or_bound q h =
      elim (or_cases (is q (starting s.plan s.rings (rings_given s row) Ring1)) (is q (starting s.plan s.rings (rings_given s row) Ring2)) h) [
        | inl k ↦ ring_starts Ring1 q (is-Some q (starting s.plan s.rings (rings_given s row) Ring1) k)
        | inr k ↦ ring_starts Ring2 q (is-Some q (starting s.plan s.rings (rings_given s row) Ring2) k)
      ]
