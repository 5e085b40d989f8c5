-- Only enabled phases are in service or committed to, through inputs of every kind.
use Rattle.std.proofs.Common.{◌≡◌, ℕ, ◌==◌, Bool, true, false, not, ◌&&◌, List, Option, Some, None, refl, sym, ap, ◌∙◌, inl, inr}
use Rattle.std.proofs.lemmas.Bool.{and_parts, or_cases}
use Rattle.tsb_step.specs.tsb_types.declared.interval.Interval.{Interval}
use Rattle.tsb_step.specs.tsb_types.declared.row.Row.{Row}
use Rattle.tsb_step.specs.tsb_types.Intervals.{is_green, in_service}
use Rattle.tsb_step.specs.tsb_plan.declared.object.Object.TheVariants.{PhaseEnabled}
use Rattle.tsb_step.specs.tsb_plan.Objects.{is_structural}
use Rattle.tsb_step.specs.tsb_plan.Plan.{Plan, is_enabled}
use Rattle.tsb_step.specs.tsb_calls.Memories as calls
use Rattle.tsb_step.specs.tsb_calls.Memories.{Memories, was_green}
use Rattle.tsb_step.specs.tsb_calls.Callable.{is_called, is_free, is_softly_recalled, is_callable}
use Rattle.tsb_step.specs.tsb_ring.Rings as rings
use Rattle.tsb_step.specs.tsb_ring.Rings.{Ring, Ring1, Ring2}
use Rattle.tsb_step.specs.tsb_ring.Next.{starting, new_commitment, next as rings_after}
use Rattle.tsb_step.specs.tsb_ring.Moves.{moves as moves_in, interval_after}
use Rattle.tsb_step.specs.tsb_ring.GivenUp.{given_up}
use Rattle.tsb_step.specs.tsb_ring.Laws.{Serves, IsSymmetric, IsGiven, IsSound}
use Rattle.tsb_step.proofs.tsb_ring.GivenUpLemmas.{was_before}
use Rattle.tsb_step.proofs.tsb_ring.SoundLemmas.{Claim, serves, promises, picks, Starting, starting_is, after_tick, Commits, enters, stands, makes, commits, new_commits}
use Rattle.tsb_step.specs.tsb_transact.Desk.{with_edits}
use Rattle.tsb_step.specs.tsb_transact.Commit.{changes_structure}
use Rattle.tsb_step.specs.declared.inputs.Input.{Input}
use Rattle.tsb_step.specs.State.{State, interval}
use Rattle.tsb_step.specs.Tick.{calls_given, set, callable, rings_given, moves, yellow_done, after_moves, next}
use Rattle.tsb_step.specs.Runs.{replay, AreTaken}
use Rattle.tsb_step.specs.Laws.{IsConsistent}
use Rattle.tsb_step.specs.Good.{IsGood}
use Rattle.tsb_step.proofs.ClipLemmas.{clipped_holds}
use Rattle.tsb_step.proofs.EditLemmas.{kept}
use Rattle.tsb_step.proofs.GivenLemmas.{symmetric, given}
use Rattle.tsb_step.proofs.IntervalLemmas.{intervals_after}
use Rattle.tsb_step.proofs.KeptLemmas.{IsKept, kept_run}
use Rattle.tsb_step.proofs.tsb_rules.ConsistentLemmas.{is-off}
use Rattle.tsb_laws.proofs.safety.ChoiceLemmas.{pick_enabled, entry_enabled}

-- ## What is callable is enabled, and was not Green

pub free_of : (plan : Plan) (given : calls.Given) (m : Memories) (p : ℕ) → is_callable plan given m p ≡ true → is_free plan given p ≡ true
unfolding is_callable
free_of plan given m p h =
    elim (or_cases (is_free plan given p && is_called plan given m p) (is_free plan given p && is_softly_recalled plan given m p) h) [
      | inl k ↦ (and_parts (is_free plan given p) (is_called plan given m p) k).0
      | inr k ↦ (and_parts (is_free plan given p) (is_softly_recalled plan given m p) k).0
    ]

callable_free : (s : State) (row : Row) (p : ℕ) → (rings_given s row).callable p ≡ true → is_free s.plan (calls_given s row) p ≡ true
unfolding rings_given
callable_free s row p h = free_of s.plan (calls_given s row) (set s row) p (clipped_holds (callable s row) p h)

pub callable_on : (s : State) (row : Row) (p : ℕ) → (rings_given s row).callable p ≡ true → is_enabled s.plan p ≡ true
callable_on s row p h = (and_parts (is_enabled s.plan p) _ (callable_free s row p h)).0

pub callable_no_green : (s : State) (row : Row) (p : ℕ) → (rings_given s row).callable p ≡ true → is_green (interval s p) ≡ false
callable_no_green s row p h =
    let free = and_parts (is_enabled s.plan p) (not ((calls_given s row).omitted p) && not (was_green (calls_given s row) p)) (callable_free s row p h) in
    let both = and_parts (not ((calls_given s row).omitted p)) (not (was_green (calls_given s row) p)) free.1 in
    is-off (is_green (interval s p)) both.1

pub callable_not_omitted : (s : State) (row : Row) (p : ℕ) → (rings_given s row).callable p ≡ true → (calls_given s row).omitted p ≡ false
callable_not_omitted s row p h =
    let free = and_parts (is_enabled s.plan p) (not ((calls_given s row).omitted p) && not (was_green (calls_given s row) p)) (callable_free s row p h) in
    let both = and_parts (not ((calls_given s row).omitted p)) (not (was_green (calls_given s row) p)) free.1 in
    is-off ((calls_given s row).omitted p) both.0

-- ## A tick

pub record AreEnabled (plan : Plan) (interval : ℕ → Interval) (s : rings.State) : Type 0 where
  pub serves : (p : ℕ) → in_service (interval p) ≡ true → is_enabled plan p ≡ true
  pub promised : (r : Ring) (c : ℕ) → s.commitment r ≡ Some c → is_enabled plan c ≡ true

module _ (plan : Plan) (s : rings.State) (given : rings.Given) (yellow_done : ℕ → Bool) (symmetric : IsSymmetric plan) (sound : IsSound plan given.interval s) (ok : IsGiven plan given) (called_on : (p : ℕ) → given.callable p ≡ true → is_enabled plan p ≡ true) (was : AreEnabled plan given.interval s) where
  claim_enabled : (r : Ring) (p : ℕ) → Claim plan s given r p → is_enabled plan p ≡ true
  claim_enabled r p (serves own k) = was.serves p k
  claim_enabled r p (promises k) = was.promised r p k
  claim_enabled r p (picks k) = pick_enabled plan given called_on s r p k

  start_enabled : (r : Ring) (p : ℕ) → starting plan s given r ≡ Some p → is_enabled plan p ≡ true
  start_enabled r p h =
      let is : Starting plan s given r p = starting_is plan s given yellow_done symmetric sound ok r p h in claim_enabled r p is.claim

  serves_after : (p : ℕ) → Serves (interval_after (moves_in plan s given) yellow_done given.interval) p → is_enabled plan p ≡ true
  serves_after p h =
      elim (after_tick plan s given yellow_done symmetric sound ok p h) [
        | inl k ↦ elim k [ inl one ↦ start_enabled Ring1 p one | inr two ↦ start_enabled Ring2 p two ]
        | inr k ↦ was.serves p k.was
      ]

  promised_after : (r : Ring) (c : ℕ) → new_commitment plan s given r ≡ Some c → is_enabled plan c ≡ true
  promised_after r c h = go (commits plan s given yellow_done symmetric sound ok r c (new_commits plan s given yellow_done symmetric sound ok r c h).1)
    where
      go : Commits plan s given yellow_done symmetric sound ok r c → is_enabled plan c ≡ true
      go (enters b e) = entry_enabled plan given called_on s r c e
      go (stands b e) = was.promised r c e
      go (makes b e) = pick_enabled plan given called_on s r c e

  pub enabled_after : AreEnabled plan (interval_after (moves_in plan s given) yellow_done given.interval) (rings_after plan s given)
  unfolding rings_after
  enabled_after = record { serves = serves_after; promised = promised_after }

-- ## Every input, and every run

abbrev AreEnabledIn : State → Type 0
AreEnabledIn s = AreEnabled s.plan (interval s) s.rings

enabled_still : (plan : Plan) (interval : ℕ → Interval) (s : rings.State) → ((p : ℕ) → in_service (interval p) ≡ true → ⊥) →
    ((r : Ring) → s.commitment r ≡ None) → AreEnabled plan interval s
enabled_still plan interval s idle none = record {
  serves = λ p h. absurd (idle p h);
  promised = λ r c e. (let bad : None ≡ Some c = sym (none r) ∙ e in absurd cc);
}

pub enabled_next : (s : State) (row : Row) → IsGood s → AreEnabledIn s → AreEnabled s.plan (interval (next s row)) (after_moves s row).rings
unfolding moves rings_given
enabled_next s row good was =
    rw (intervals_after s row)
    (enabled_after s.plan s.rings (rings_given s row) (yellow_done s) (symmetric s.plan good.plan.rules) good.rings (given s row good)
    (callable_on s row) was)

enabled_given : (plan : Plan) (interval : ℕ → Interval) (target : Option (ℕ → Bool)) (s : rings.State) → AreEnabled plan interval s →
    AreEnabled plan interval (given_up plan target s)
enabled_given plan interval target s was = record {
  serves = was.serves;
  promised = λ r c e. was.promised r c (was_before plan target s r c e);
}

enabled_committed : (s : State) → changes_structure s.plan s.desk.edits ≡ false → AreEnabledIn s →
    AreEnabled (with_edits s.plan s.desk.edits) (interval s) s.rings
enabled_committed s unchanged was = record {
  serves = λ p h. on p ∙ was.serves p h;
  promised = λ r c e. on c ∙ was.promised r c e;
}
  where
    on : (p : ℕ) → is_enabled (with_edits s.plan s.desk.edits) p ≡ is_enabled s.plan p
    on p = ap (λ (v : ℕ). v == 1) (kept is_structural s.plan s.desk.edits unchanged PhaseEnabled p refl)

enabled_kept : IsKept AreEnabled
enabled_kept = record { still = enabled_still; ticks = enabled_next; gives = enabled_given; commits = enabled_committed }

pub enabled_run : (plan : Plan) (is : List Input) → IsConsistent plan → AreTaken plan is →
    AreEnabled (replay plan is).plan (interval (replay plan is)) (replay plan is).rings
enabled_run plan is ok taken = kept_run AreEnabled enabled_kept plan is ok taken
