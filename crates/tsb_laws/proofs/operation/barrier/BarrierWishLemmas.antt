-- Rings that want to cross the barrier: what they take and keep, and that a crossing begins where both join. And a ring
-- that clears with no commitment, as where a preempt has ended its green: it goes Red once it is over. For the laws
-- that called phases are served, in free operation and in patterns.
use Rattle.std.proofs.Common.{◌≡◌, ℕ, Bool, true, false, ◌&&◌, Option, Some, None, refl, sym, ap, ◌∙◌, inl, inr}
use Rattle.std.proofs.lemmas.Bool.{and_parts, or_cases, true≢false, false_from_ne_true, false≢true, and_right}
use Rattle.tsb_step.specs.tsb_types.declared.interval.Interval.TheVariants.{Red, Green, Yellow, RedClear}
use Rattle.tsb_step.specs.tsb_types.declared.row.Row.{Row}
use Rattle.tsb_step.specs.tsb_types.Intervals.{is_green, in_service}
use Rattle.tsb_step.specs.tsb_types.Lists.{is}
use Rattle.tsb_step.specs.tsb_plan.Plan.{Plan}
use Rattle.tsb_step.specs.tsb_ring.declared.want.Want.TheVariants.{Cross}
use Rattle.tsb_step.specs.tsb_ring.Rings as rings
use Rattle.tsb_step.specs.tsb_ring.Rings.{Ring, Ring1, Ring2, Given, in_ring, serving}
use Rattle.tsb_step.specs.tsb_ring.Wants.{is_idle_or_green, want_of, pick}
use Rattle.tsb_step.specs.tsb_ring.Crossings.{ring_joins, begins, target_side, committed as committed_to}
use Rattle.tsb_step.specs.tsb_ring.Next.{ends, clears, new_crossing, next as rings_after}
use Rattle.tsb_step.specs.tsb_ring.Moves.{ring_moves, moves as moves_in, is_ended, is_started, is_cleared}
use Rattle.tsb_step.proofs.tsb_ring.ClaimLemmas.{ring_of_is}
use Rattle.tsb_step.proofs.tsb_ring.MoveLemmas.{passed, clears_over}
use Rattle.tsb_step.proofs.tsb_ring.WantLemmas.{pick_free}
use Rattle.tsb_step.specs.State.{State, interval}
use Rattle.tsb_step.specs.tsb_phase.Ready.{yellow_is_done}
use Rattle.tsb_step.specs.Tick.{phase_read, rings_given, moves, next, yellow_done, after_moves}
use Rattle.tsb_step.proofs.GivenLemmas.{symmetric, given}
use Rattle.tsb_step.specs.tsb_types.declared.interval.Interval.{Interval}
use Rattle.tsb_step.proofs.tsb_ring.StartLemmas.{is_cleared_in}
use Rattle.tsb_step.specs.Good.{IsGood}

-- ## A ring that wants to cross

-- it takes nothing
pub picks_cross : (plan : Plan) (s : rings.State) (given : Given) (r : Ring) → want_of plan s given r ≡ Some Cross → pick plan s given r ≡ None
unfolding pick
picks_cross plan s given r w = rw w refl

-- and joins, with a green that is ready or none
pub joins_green : (plan : Plan) (s : rings.State) (given : Given) (r : Ring) (p : ℕ) → serving plan given r ≡ Some p → given.interval p ≡ Green →
    given.ready p ≡ true → want_of plan s given r ≡ Some Cross → ring_joins plan s given r ≡ true
joins_green plan s given r p e green fit w = rw (e, green, fit, w) refl

pub joins_idle : (plan : Plan) (s : rings.State) (given : Given) (r : Ring) → serving plan given r ≡ None → want_of plan s given r ≡ Some Cross →
    ring_joins plan s given r ≡ true
joins_idle plan s given r e w = rw (e, w) refl

-- its green ends only as it leaves for a phase, or as a crossing begins
pub ended_is : (plan : Plan) (s : rings.State) (given : Given) (p : ℕ) → is_ended (moves_in plan s given) p ≡ true → ends plan s given p ≡ true
unfolding moves_in
ended_is plan s given p h =
    elim (or_cases (is p (ring_moves plan s given Ring1).ends) (is p (ring_moves plan s given Ring2).ends) h) [
      | inl k ↦ one Ring1 k
      | inr k ↦ one Ring2 k
    ]
  where
    one : (r : Ring) → is p (ring_moves plan s given r).ends ≡ true → ends plan s given p ≡ true
    one r k = (and_parts (is_green (given.interval p)) (ends plan s given p) (passed (λ q. is_green (given.interval q) && ends plan s given q) (serving plan given r) p k).1).1

pub cross_keeps : (plan : Plan) (s : rings.State) (given : Given) (r : Ring) (p : ℕ) → in_ring plan r p ≡ true → want_of plan s given r ≡ Some Cross →
    begins plan s given ≡ false → ends plan s given p ≡ false
unfolding ends
cross_keeps plan s given r p own w none = rw (none, ring_of_is plan r p own, w) (and_right (given.ready p) false refl)

-- ## A ring that clears with no commitment

-- a ring that clears wants nothing, and takes nothing
pub picks_clearing : (plan : Plan) (s : rings.State) (given : Given) (r : Ring) (p : ℕ) → serving plan given r ≡ Some p → is_green (given.interval p) ≡ false →
    pick plan s given r ≡ None
picks_clearing plan s given r p e dark = go (pick plan s given r) refl
  where
    go : (o : Option ℕ) → pick plan s given r ≡ o → pick plan s given r ≡ None
    go None f = f
    go (Some c) f =
        (let rests : is_idle_or_green given (serving plan given r) ≡ true = (pick_free plan s given r c f).idle_or_green in
        absurd (true≢false (sym (rw e at rests) ∙ dark)))

-- what is over clears where its ring has no commitment
pub clears_over_one : (plan : Plan) (s : rings.State) (given : Given) (r : Ring) (p : ℕ) → serving plan given r ≡ Some p → in_ring plan r p ≡ true →
    s.commitment r ≡ None → begins plan s given ≡ false → is_green (given.interval p) ≡ false → given.over p ≡ true → clears plan s given p ≡ true
unfolding clears committed_to
clears_over_one plan s given r p e own free none dark done =
    rw (done, ring_of_is plan r p own, none, free, e, picks_clearing plan s given r p e dark) refl

pub cleared_is : (s : State) (row : Row) (r : Ring) (p : ℕ) → IsGood s → serving s.plan (rings_given s row) r ≡ Some p →
    clears s.plan s.rings (rings_given s row) p ≡ true → is_cleared (moves s row) p ≡ true
unfolding moves rings_given
cleared_is s row r p good e h =
    is_cleared_in s.plan s.rings (rings_given s row) (yellow_done s) (symmetric s.plan good.plan.rules) good.rings (given s row good) r p e h

-- a phase that clears and is cleared is Red
pub cleared_red : (s : State) (row : Row) (p : ℕ) → is_green (interval s p) ≡ false → is_started (moves s row) p ≡ false → is_cleared (moves s row) p ≡ true →
    interval (next s row) p ≡ Red
cleared_red s row p dark no_start cleared = go (interval s p) refl
  where
    go : (i : Interval) → interval s p ≡ i → interval (next s row) p ≡ Red
    go Red e = rw (no_start, e) refl
    go Green e = absurd (true≢false (rw e at dark))
    go Yellow e = rw (no_start, e, cleared) refl
    go RedClear e = rw (no_start, e, cleared) refl

-- ## What a tick ends and clears

pub ended_none : (s : State) (row : Row) (p : ℕ) → ends s.plan s.rings (rings_given s row) p ≡ false → is_ended (moves s row) p ≡ false
unfolding moves
ended_none s row p h = false_from_ne_true _ (λ g. true≢false (sym (ended_is s.plan s.rings (rings_given s row) p g) ∙ h))

pub cleared_over : (s : State) (row : Row) (p : ℕ) → is_cleared (moves s row) p ≡ true → (rings_given s row).over p ≡ true
unfolding moves
cleared_over s row p h = clears_over s.plan s.rings (rings_given s row) p h

-- a phase that clears and is not cleared clears on
pub still_clearing : (s : State) (row : Row) (p : ℕ) → in_service (interval s p) ≡ true → is_green (interval s p) ≡ false → is_started (moves s row) p ≡ false →
    is_cleared (moves s row) p ≡ false → (in_service (interval (after_moves s row) p) ≡ true) × (is_green (interval (after_moves s row) p) ≡ false)
still_clearing s row p serves dark no_start kept = go (interval s p) refl
  where
    both : (i : Interval) → interval (after_moves s row) p ≡ i → in_service i ≡ true → is_green i ≡ false →
        (in_service (interval (after_moves s row) p) ≡ true) × (is_green (interval (after_moves s row) p) ≡ false)
    both i e f g = (ap in_service e ∙ f, ap is_green e ∙ g)

    yellow : interval s p ≡ Yellow → (b : Bool) → yellow_is_done s.plan p (phase_read s p) ≡ b →
        (in_service (interval (after_moves s row) p) ≡ true) × (is_green (interval (after_moves s row) p) ≡ false)
    yellow e true l = both RedClear (rw (no_start, e, kept, rw e at l) refl) refl refl
    yellow e false l = both Yellow (rw (no_start, e, kept, rw e at l) refl) refl refl

    go : (i : Interval) → interval s p ≡ i → (in_service (interval (after_moves s row) p) ≡ true) × (is_green (interval (after_moves s row) p) ≡ false)
    go Red e = absurd (false≢true (rw e at serves))
    go Green e = absurd (true≢false (rw e at dark))
    go Yellow e = yellow e (yellow_is_done s.plan p (phase_read s p)) refl
    go RedClear e = both RedClear (rw (no_start, e, kept) refl) refl refl

-- ## Crossings that begin

pub begun_crosses : (plan : Plan) (s : rings.State) (given : Given) → begins plan s given ≡ true → (rings_after plan s given).crossing ≡ Some (target_side plan s given)
unfolding rings_after new_crossing
begun_crosses plan s given b = rw b refl

pub begins_now : (plan : Plan) (s : rings.State) (given : Given) → ring_joins plan s given Ring1 ≡ true → ring_joins plan s given Ring2 ≡ true →
    want_of plan s given Ring1 ≡ Some Cross → begins plan s given ≡ true
unfolding begins
begins_now plan s given one two w = rw (one, two, w) refl
