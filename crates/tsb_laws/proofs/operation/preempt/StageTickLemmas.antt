-- What is left goes down in a tick of a stage: while only what the preempt wants is Green or committed to, and before
-- that, while other greens and commitments of before are ending. For the laws that preempts reach their stages and
-- dwell.
use Rattle.std.proofs.Common.{◌≡◌, ℕ, ◌+◌, ◌-◌, ◌≤◌, Bool, true, false, Some, refl, ap, inl, inr, ◌⊎◌, arith}
use Rattle.std.proofs.Math.Bool.{and-false}
use Rattle.tsb_step.specs.tsb_types.declared.interval.Interval.TheVariants.{Green}
use Rattle.tsb_step.specs.tsb_types.declared.interval.PedestrianInterval.TheVariants.{DontWalk}
use Rattle.tsb_step.specs.tsb_types.declared.row.Row.{Row}
use Rattle.tsb_step.specs.tsb_types.Intervals.{is_green, in_service}
use Rattle.tsb_step.specs.tsb_plan.Plan.{Plan}
use Rattle.tsb_step.specs.tsb_phase.Phase.{Phase}
use Rattle.tsb_step.specs.tsb_ring.Rings as rings
use Rattle.tsb_step.specs.tsb_ring.Rings.{Ring, in_ring}
use Rattle.tsb_step.specs.tsb_ring.Moves.{is_ended, is_started}
use Rattle.tsb_step.specs.State.{State, interval}
use Rattle.tsb_step.specs.Tick.{phases_given, moves, after_moves}
use Rattle.tsb_step.proofs.TellLemmas.{is_in_green}
use Rattle.tsb_laws.proofs.operation.step.PhaseTimeLemmas.{clears_at, reverts_at, clears_down, reverts_down}
use Rattle.tsb_laws.proofs.operation.preempt.PreemptGreenLemmas.{greens_down, begun_left}
use Rattle.tsb_laws.proofs.operation.preempt.StageFactLemmas.{Limits, Within, clear_of, revert_of, green_of, Stays, green_after, started_green, still_green, wanted_stays, enters, binds, green_no_start, ends_it}

pub less : (a b m : ℕ) → a ≤ b - 1 → b ≤ m → a ≤ m - 1
less a b m h k = omega (arith, h, k)

-- ## Words

-- only what is wanted is Green or committed to, and within m ticks all is over, and what is wanted has reverted
pub record IsClean (t : Limits) (list : ℕ → Bool) (phases : ℕ → Phase) (s : rings.State) (m : ℕ) : Type 0 where
  pub greens : (p : ℕ) → (phases p).interval ≡ Green → list p ≡ true
  pub commits : (r : Ring) (c : ℕ) → s.commitment r ≡ Some c → list c ≡ true
  pub clears : (p : ℕ) → clear_of t phases p ≤ m
  pub reverts : (p : ℕ) → list p ≡ true → revert_of t phases p ≤ m

-- a commitment starts within k ticks and one more: its ring is over then, and it has reverted; in a crossing all is over, and
-- all commitments have reverted
pub record StartsSoon (t : Limits) (plan : Plan) (phases : ℕ → Phase) (s : rings.State) (k : ℕ) (r : Ring) (c : ℕ) : Type 0 where
  pub own : (p : ℕ) → in_service (phases p).interval ≡ true → in_ring plan r p ≡ true → clear_of t phases p ≤ k
  pub revert : revert_of t phases c ≤ k
  pub all : (d : ℕ) → s.crossing ≡ Some d → (p : ℕ) → clear_of t phases p ≤ k
  pub reverts : (d : ℕ) → s.crossing ≡ Some d → (q : Ring) (e : ℕ) → s.commitment q ≡ Some e → revert_of t phases e ≤ k

-- within e ticks each green that is not wanted is ready, also one that starts by a commitment of before
pub record IsDirty (t : Limits) (list : ℕ → Bool) (plan : Plan) (phases : ℕ → Phase) (s : rings.State) (k e : ℕ) : Type 0 where
  pub greens : (p : ℕ) → (phases p).interval ≡ Green → list p ≡ false → green_of t phases p ≤ e
  pub soon : (r : Ring) (c : ℕ) → s.commitment r ≡ Some c → list c ≡ false → StartsSoon t plan phases s k r c
  pub late : (r : Ring) (c : ℕ) → s.commitment r ≡ Some c → list c ≡ false → k + t.green + 1 ≤ e
  pub reverts : (p : ℕ) → list p ≡ true → revert_of t phases p ≤ e + 1 + t.clears

module _ (s : State) (row : Row) (list : ℕ → Bool) (n : ℕ) (x : Stays s row list n) (t : Limits) (w : Within t s.plan n) where
  -- what is wanted reverts
  pub wanted_reverts : (m p : ℕ) → list p ≡ true → revert_of t s.phases p ≤ m → revert_of t (after_moves s row).phases p ≤ m - 1
  wanted_reverts m p h was = go (is_started (moves s row) p) refl
    where
      go : (b : Bool) → is_started (moves s row) p ≡ b → revert_of t (after_moves s row).phases p ≤ m - 1
      go true e =
          reverts_at (t.yellow p) (t.revert p) (m - 1) ((after_moves s row).phases p).timer ((after_moves s row).phases p).timer ((after_moves s row).phases p).red_revert
          ((after_moves s row).phases p).red_revert (interval (after_moves s row) p) Green refl refl (started_green s row p e) (omega arith)
      go false e =
          less (revert_of t (after_moves s row).phases p) (revert_of t s.phases p) m
          (reverts_down s row p (t.yellow p) (t.revert p) (w.yellow p) (x.timed p) (wanted_stays s row list n x p h) e) was

  -- what is not Green clears, unless it starts
  pub dark_clears : (m p : ℕ) → is_green (interval s p) ≡ false → is_started (moves s row) p ≡ false → clear_of t s.phases p ≤ m →
      clear_of t (after_moves s row).phases p ≤ m - 1
  dark_clears m p dark no_start was =
      less (clear_of t (after_moves s row).phases p) (clear_of t s.phases p) m
      (clears_down s row p (t.yellow p) (t.red p) (w.yellow p) (x.timed p) dark no_start) was

  pub green_clears : (m p : ℕ) → interval (after_moves s row) p ≡ Green → clear_of t (after_moves s row).phases p ≤ m
  green_clears m p now =
      clears_at (t.yellow p) (t.red p) m ((after_moves s row).phases p).timer ((after_moves s row).phases p).timer (interval (after_moves s row) p) Green refl now (omega arith)

  -- ## Only what is wanted

  pub clean_tick : (m : ℕ) → IsClean t list s.phases s.rings m → IsClean t list (after_moves s row).phases (after_moves s row).rings (m - 1)
  clean_tick m was = record {
    greens = λ p e. greens p (green_after s row p (ap is_green e));
    commits = λ r c e. commits r c (binds s row list n x r c e);
    clears = λ p. clears p (is_started (moves s row) p) (is_green (interval s p)) refl refl;
    reverts = λ p h. wanted_reverts m p h (was.reverts p h);
  }
    where
      greens : (p : ℕ) → (is_started (moves s row) p ≡ true) ⊎ ((interval s p ≡ Green) × (is_ended (moves s row) p ≡ false)) → list p ≡ true
      greens p (inr both) = was.greens p both.0
      greens p (inl e) =
          elim (enters s row list n x p e) [
            | inl h ↦ h
            | inr h ↦ was.commits h.0 p h.1
          ]

      commits : (r : Ring) (c : ℕ) → (list c ≡ true) ⊎ (s.rings.commitment r ≡ Some c) → list c ≡ true
      commits r c (inl h) = h
      commits r c (inr h) = was.commits r c h

      clears : (p : ℕ) (a b : Bool) → is_started (moves s row) p ≡ a → is_green (interval s p) ≡ b → clear_of t (after_moves s row).phases p ≤ m - 1
      clears p true b e k = green_clears (m - 1) p (started_green s row p e)
      clears p false true e k =
          let green : interval s p ≡ Green = is_in_green (interval s p) k in
          green_clears (m - 1) p (still_green s row p e (wanted_stays s row list n x p (was.greens p green)) green)
      clears p false false e k = dark_clears m p k e (was.clears p)

  -- ## A green that is not wanted

  -- one that has just started
  begun_dark : (p : ℕ) → is_started (moves s row) p ≡ true → ((after_moves s row).phases p).pedestrian ≡ DontWalk
  unfolding phases_given
  begun_dark p e = rw (e, x.serves, and-false) refl

  pub begun_green : (p : ℕ) → is_started (moves s row) p ≡ true → green_of t (after_moves s row).phases p ≤ t.green - 1
  begun_green p e =
      begun_left ((after_moves s row).phases p) t.green (t.walk p) (t.clearance p) (rw e refl) (begun_dark p e)

  -- one that goes on
  pub unwanted_down : (p : ℕ) → list p ≡ false → interval s p ≡ Green → is_ended (moves s row) p ≡ false →
      green_of t (after_moves s row).phases p ≤ green_of t s.phases p - 1
  unwanted_down p out green no_end =
      greens_down s row p n t.green (t.walk p) (t.clearance p) (ends_it s row list n x p (x.good.rings.listed p (ap in_service green)) out)
      (w.walk p) (w.clearance p) (x.timed p) green no_end (green_no_start s row list n x p green)
