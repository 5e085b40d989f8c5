-- What rings make of a plan does not see how many detectors, overlaps and preempts there are.
use Rattle.std.proofs.Common.{◌≡◌, ℕ, Bool, ◌&&◌, ◌||◌, if◌then◌else◌, Option, Some, None, is_some, is_none, refl, ap, ap₂, ◌∙◌}
use Rattle.std.proofs.Math.Path.{fun_ext}
use Rattle.tsb_step.specs.tsb_types.Intervals.{is_green}
use Rattle.tsb_step.specs.tsb_types.declared.flow.RingMoves.{RingMoves}
use Rattle.tsb_step.specs.tsb_types.Lists.{first, or_else, or_number}
use Rattle.tsb_step.specs.tsb_plan.Plan.{Plan, phases}
use Rattle.tsb_step.specs.tsb_ring.declared.want.Want.{Want}
use Rattle.tsb_step.specs.tsb_ring.declared.want.Want.TheVariants.{Cross, Rest, Stop}
use Rattle.tsb_step.specs.tsb_ring.Crossings.{joins, wants_cross, begins, target_side, entry_by_calls, entry_for, entry, own_commitment, committed}
use Rattle.tsb_step.specs.tsb_ring.GivenUp.{given_up}
use Rattle.tsb_step.specs.tsb_ring.Moves.{if_passes, ring_moves, moves}
use Rattle.tsb_step.specs.tsb_ring.Next.{is_none_or_over, makes_way, may_start, completes, idle_pick, start_now, starting, leaves, ends, clears, new_commitment, new_crossing, new_last, new_side, next}
use Rattle.tsb_step.specs.tsb_ring.Rings.{Ring, Ring1, Ring2, other, State, Given, in_ring, own_ring, serving}
use Rattle.tsb_step.specs.tsb_ring.Wants.{go_or, concurrent_with, fits, is_on_side, is_called_elsewhere, want_within, is_targeted, serves_target, is_targeted_elsewhere, want_found, is_idle_or_green, want, taken, pick_of_ring_1, picked_before, want_of, pick}
use Rattle.tsb_laws.specs.Sizes.{full}

-- what is found of each ring
abbrev OfRing : Type 0
OfRing = State → Given → Ring → Option ℕ

module _ (plan : Plan) where
  -- ## Wants

  pub serving-same : serving (full plan) ≡ serving plan
  unfolding serving
  serving-same = refl

  fits-same : fits (full plan) ≡ fits plan
  unfolding fits
  fits-same = fun_ext (λ s. fun_ext (λ given. fun_ext (λ r. fun_ext (λ picked. fun_ext (λ p.
      ap (λ (f : Given → Ring → Option ℕ). concurrent_with plan p (f given (other r)) && concurrent_with plan p (s.commitment (other r))
      && concurrent_with plan p picked) serving-same)))))

  want_found-same : (s : State) (given : Given) (r : Ring) (picked : Option ℕ) (target : Option (ℕ → Bool)) →
      want_found (full plan) s given r picked target ≡ want_found plan s given r picked target
  want_found-same s given r picked None =
      ap (λ (f : State → Given → Ring → Option ℕ → ℕ → Bool). want_within (given.sequence r) (s.last r)
      (λ p. in_ring plan r p && is_on_side plan s.side p && given.callable p && f s given r picked p)
      (is_called_elsewhere plan s given)) fits-same
  want_found-same s given r picked (Some target) =
      ap₂ (λ (f : Given → Ring → Option ℕ) (g : State → Given → Ring → Option ℕ → ℕ → Bool).
      if serves_target plan target (f given r) then Rest else
      (go_or (first (λ p. in_ring plan r p && is_on_side plan s.side p && is_targeted plan target p && g s given r picked p) (phases plan))
      (if is_targeted_elsewhere plan s target then Cross else Stop))) serving-same fits-same

  want-same : want (full plan) ≡ want plan
  unfolding want
  want-same = fun_ext (λ s. fun_ext (λ given. fun_ext (λ r. fun_ext (λ picked.
      ap₂ (λ (f : Given → Ring → Option ℕ) (w : Want).
      if is_none s.crossing && is_none (s.commitment r) && is_idle_or_green given (f given r) then Some w else None)
      serving-same (want_found-same s given r picked given.target)))))

  pick_of_ring_1-same : pick_of_ring_1 (full plan) ≡ pick_of_ring_1 plan
  unfolding pick_of_ring_1
  pick_of_ring_1-same = fun_ext (λ s. fun_ext (λ given.
      ap₂ (λ (f : Given → Ring → Option ℕ) (g : State → Given → Ring → Option ℕ → Option Want). taken given (f given Ring1) (g s given Ring1 None))
      serving-same want-same))

  picked_before-same : (s : State) (given : Given) (r : Ring) → picked_before (full plan) s given r ≡ picked_before plan s given r
  picked_before-same s given Ring1 = refl
  picked_before-same s given Ring2 = ap (λ (f : State → Given → Option ℕ). f s given) pick_of_ring_1-same

  want_of-same : want_of (full plan) ≡ want_of plan
  unfolding want_of
  want_of-same = fun_ext (λ s. fun_ext (λ given. fun_ext (λ r.
      ap₂ (λ (f : State → Given → Ring → Option ℕ → Option Want) (o : Option ℕ). f s given r o) want-same (picked_before-same s given r))))

  pick-same : pick (full plan) ≡ pick plan
  unfolding pick
  pick-same = fun_ext (λ s. fun_ext (λ given. fun_ext (λ r.
      ap₂ (λ (f : Given → Ring → Option ℕ) (g : State → Given → Ring → Option Want). taken given (f given r) (g s given r)) serving-same want_of-same)))

  -- ## Crossings

  begins-same : begins (full plan) ≡ begins plan
  unfolding begins
  begins-same = fun_ext (λ s. fun_ext (λ given.
      ap₂ (λ (f : Given → Ring → Option ℕ) (g : State → Given → Ring → Option Want).
      joins given (f given Ring1) (s.commitment Ring1) (g s given Ring1) && joins given (f given Ring2) (s.commitment Ring2) (g s given Ring2)
      && (wants_cross (g s given Ring1) || wants_cross (g s given Ring2))) serving-same want_of-same))

  target_side-same : target_side (full plan) ≡ target_side plan
  unfolding target_side
  target_side-same = refl

  entry_for-same : (s : State) (given : Given) (r : Ring) (target : Option (ℕ → Bool)) →
      entry_for (full plan) s given r target ≡ entry_for plan s given r target
  entry_for-same s given r None = ap (λ (f : State → Given → ℕ). entry_by_calls plan given (f s given) r) target_side-same
  entry_for-same s given r (Some target) = refl

  entry-same : entry (full plan) ≡ entry plan
  unfolding entry
  entry-same = fun_ext (λ s. fun_ext (λ given. fun_ext (λ r. entry_for-same s given r given.target)))

  committed-same : committed (full plan) ≡ committed plan
  unfolding committed
  committed-same = fun_ext (λ s. fun_ext (λ given. fun_ext (λ r.
      ap₂ (λ (f : State → Given → Bool) (g : OfRing). if f s given then g s given r
      else own_commitment (s.commitment r) (serving (full plan) given r) (pick (full plan) s given r)) begins-same entry-same
      ∙ ap₂ (λ (f : Given → Ring → Option ℕ) (g : OfRing). if begins plan s given then entry plan s given r
      else own_commitment (s.commitment r) (f given r) (g s given r)) serving-same pick-same)))

  -- ## Starts and ends

  may_start-same : (given : Given) (r : Ring) (c : Option ℕ) → may_start (full plan) given r c ≡ may_start plan given r c
  may_start-same given r None = ap (λ (f : Given → Ring → Option ℕ). is_none_or_over given (f given r)) serving-same
  may_start-same given r (Some c) =
      ap (λ (f : Given → Ring → Option ℕ). is_none_or_over given (f given r) && given.reverted c && makes_way plan given c (f given (other r)))
      serving-same

  completes-same : completes (full plan) ≡ completes plan
  unfolding completes
  completes-same = fun_ext (λ s. fun_ext (λ given.
      ap₂ (λ (a b : Bool). is_some s.crossing && a && b) (may_start-same given Ring1 (s.commitment Ring1)) (may_start-same given Ring2 (s.commitment Ring2))))

  start_now-same : (s : State) (given : Given) (r : Ring) (c : Option ℕ) →
      start_now (full plan) s given r c ≡ start_now plan s given r c
  start_now-same s given r (Some c) =
      ap₂ (λ (f : State → Given → Bool) (b : Bool). if (if is_some s.crossing then f s given else b) then Some c else None)
      completes-same (may_start-same given r (Some c))
  start_now-same s given r None =
      ap₂ (λ (f : Given → Ring → Option ℕ) (g : OfRing). idle_pick (f given r) (g s given r)) serving-same pick-same

  starting-same : starting (full plan) ≡ starting plan
  unfolding starting
  starting-same = fun_ext (λ s. fun_ext (λ given. fun_ext (λ r. start_now-same s given r (s.commitment r))))

  ends-same : ends (full plan) ≡ ends plan
  unfolding ends
  ends-same = fun_ext (λ s. fun_ext (λ given. fun_ext (λ p.
      ap₂ (λ (f : State → Given → Bool) (g : State → Given → Ring → Option Want). f s given || (given.ready p && leaves (g s given (own_ring plan p))))
      begins-same want_of-same)))

  clears-same : clears (full plan) ≡ clears plan
  unfolding clears
  clears-same = fun_ext (λ s. fun_ext (λ given. fun_ext (λ p.
      ap₂ (λ (f g : OfRing). given.over p && (is_none (f s given (own_ring plan p)) || is_some (g s given (own_ring plan p)))) committed-same starting-same)))

  -- ## The new state

  new_last-same : new_last (full plan) ≡ new_last plan
  unfolding new_last
  new_last-same = fun_ext (λ s. fun_ext (λ given. fun_ext (λ r.
      ap₂ (λ (f : OfRing) (g : State → Given → Bool). or_else (f s given r) (if g s given && is_none (s.commitment r) then None else s.last r))
      starting-same completes-same)))

  new_commitment-same : new_commitment (full plan) ≡ new_commitment plan
  unfolding new_commitment
  new_commitment-same = fun_ext (λ s. fun_ext (λ given. fun_ext (λ r.
      ap₂ (λ (f g : OfRing). if is_some (f s given r) then None else g s given r) starting-same committed-same)))

  new_side-same : new_side (full plan) ≡ new_side plan
  unfolding new_side
  new_side-same = fun_ext (λ s. fun_ext (λ given. ap (λ (f : State → Given → Bool). if f s given then or_number s.crossing s.side else s.side) completes-same))

  new_crossing-same : new_crossing (full plan) ≡ new_crossing plan
  unfolding new_crossing
  new_crossing-same = fun_ext (λ s. fun_ext (λ given.
      ap (λ (f : State → Given → ℕ). if begins (full plan) s given then Some (f s given)
      else (if completes (full plan) s given then None else s.crossing)) target_side-same
      ∙ ap₂ (λ (f g : State → Given → Bool). if f s given then Some (target_side plan s given) else (if g s given then None else s.crossing))
      begins-same completes-same))

  pub next-same : next (full plan) ≡ next plan
  unfolding next
  next-same = fun_ext (λ s. fun_ext (λ given.
      ap₂ (λ (f g : OfRing). record (next (full plan) s given) { last = f s given; commitment = g s given }) new_last-same new_commitment-same
      ∙ ap₂ (λ (f : State → Given → ℕ) (g : State → Given → Option ℕ). record (next plan s given) { side = f s given; crossing = g s given })
      new_side-same new_crossing-same))

  -- ## Moves

  ring_moves-same : (s : State) (given : Given) (r : Ring) → ring_moves (full plan) s given r ≡ ring_moves plan s given r
  ring_moves-same s given r =
      ap₂ (λ (f : Given → Ring → Option ℕ) (g : State → Given → ℕ → Bool). record (ring_moves (full plan) s given r) {
        ends = if_passes (λ p. is_green (given.interval p) && g s given p) (f given r);
        clears = if_passes (clears (full plan) s given) (f given r);
      }) serving-same ends-same
      ∙ ap (λ (g : State → Given → ℕ → Bool). record (ring_moves (full plan) s given r) {
        ends = (ring_moves plan s given r).ends;
        clears = if_passes (g s given) (serving plan given r);
      }) clears-same
      ∙ ap₂ (λ (f g : OfRing). record (ring_moves plan s given r) {
        starts = f s given r;
        commits = if is_some (s.commitment r) then None else g s given r;
      }) starting-same committed-same

  pub moves-same : moves (full plan) ≡ moves plan
  unfolding moves
  moves-same = fun_ext (λ s. fun_ext (λ given.
      ap₂ (λ (x y : RingMoves). record (moves (full plan) s given) { first = x; second = y })
      (ring_moves-same s given Ring1) (ring_moves-same s given Ring2)
      ∙ ap₂ (λ (f g : State → Given → Bool). record (moves plan s given) {
        crossing = if f s given then Some (target_side (full plan) s given) else None;
        completes = g s given;
      }) begins-same completes-same
      ∙ ap (λ (f : State → Given → ℕ). record (moves plan s given) { crossing = if begins plan s given then Some (f s given) else None }) target_side-same))

  pub given_up-same : given_up (full plan) ≡ given_up plan
  unfolding given_up
  given_up-same = refl
