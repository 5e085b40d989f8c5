-- All red ends: a run through all red, in which some phase is wanted in each tick, is short.
use Rattle.std.proofs.Common.{◌≡◌, ℕ, ◌+◌, ◌<◌, ◌≤◌, ◌==◌, nat_le, Bool, true, false, not, ◌&&◌, ◌||◌, List, [], ◌∷◌, ◌++◌, Option, Some, None, is_some, option_map, refl, sym, ap, subst, inl, inr, arith, ◌∙◌}
use Rattle.std.proofs.lemmas.Bool.{cases_Bool, and_parts, eqb-true, eq-eqb, leb-true, true≢false}
use Rattle.std.proofs.lemmas.Bool.Decides.{nat_tests}
use Rattle.tsb_step.specs.tsb_types.declared.interval.Interval.TheVariants.{Green}
use Rattle.tsb_step.specs.tsb_types.declared.row.Row.{Row}
use Rattle.tsb_step.specs.tsb_types.Intervals.{is_green, is_yellow, in_service}
use Rattle.tsb_step.specs.tsb_types.Lists.{first, among}
use Rattle.tsb_step.specs.tsb_plan.Plan.{Plan, phases, is_enabled, ring_of, red_revert, sequence}
use Rattle.tsb_step.specs.tsb_plan.Running.{running, sequence_in_effect}
use Rattle.tsb_step.specs.tsb_rules.Consistent.{IsPlaced, ListsRing}
use Rattle.tsb_step.proofs.tsb_rules.ConsistentLemmas.{placed}
use Rattle.tsb_step.specs.tsb_ring.Rings as rings
use Rattle.tsb_step.specs.tsb_ring.Rings.{Ring, Ring1, Ring2, number, in_ring, serving}
use Rattle.tsb_step.specs.tsb_preempt.Preempts.{wanted_by}
use Rattle.tsb_step.specs.tsb_preempt.Service.{Service, stage_phases}
use Rattle.tsb_step.specs.tsb_ring.Crossings.{begins, target_side}
use Rattle.tsb_step.specs.tsb_ring.GivenUp.{given_up}
use Rattle.tsb_step.specs.tsb_ring.Next.{starting, new_crossing, next as rings_next}
use Rattle.tsb_step.specs.tsb_ring.Moves.{is_started}
use Rattle.tsb_step.specs.tsb_ring.Laws.{IsListed, IsSymmetric, IsGiven}
use Rattle.tsb_step.proofs.tsb_ring.GivenUpLemmas.{all_stays}
use Rattle.tsb_step.proofs.tsb_ring.WaitLemmas.{first-passes}
use Rattle.tsb_step.specs.declared.inputs.Input.{Input}
use Rattle.tsb_step.specs.declared.inputs.Input.TheVariants.{Tick}
use Rattle.tsb_step.specs.State.{State, interval}
use Rattle.tsb_step.specs.Tick.{new_service, service, target, callable, rings_given, moves, reverted, yellow_done, after_moves, next}
use Rattle.tsb_step.specs.Step.{step, kind_of}
use Rattle.tsb_step.specs.Runs.{replay, AreTaken}
use Rattle.tsb_step.specs.Past.{ticks_of}
use Rattle.tsb_step.specs.Laws.{IsConsistent}
use Rattle.tsb_step.specs.Good.{IsGood}
use Rattle.tsb_step.specs.TimeLaws.{held_for}
use Rattle.tsb_step.proofs.GivenLemmas.{lists_now, lists_ring, listed_is_phase, enabled_is_listed, symmetric, new_in_stage, given}
use Rattle.tsb_step.proofs.GiveUpLemmas.{by_rings, outside_then}
use Rattle.tsb_step.proofs.GoodLemmas.{good_run}
use Rattle.tsb_step.proofs.StandLemmas.{rings_then}
use Rattle.tsb_step.proofs.TellLemmas.{held_on}
use Rattle.tsb_laws.specs.Stretches.{IsUntripped, largest}
use Rattle.tsb_laws.specs.AllRed.{IsAllRed, HasBeenRed, is_wanted, HasBeenWanted, IsInRange}
use Rattle.tsb_step.proofs.ClearLemmas.{one_later}
use Rattle.tsb_laws.proofs.safety.StretchLemmas.{dark_now, IsSame, Goes, ticks, stays, goes, at_next}
use Rattle.tsb_laws.proofs.safety.EnabledLemmas.{callable_on}
use Rattle.tsb_laws.proofs.safety.DueLemmas.{largest_now, largest_more, count_run, clipped_at, dark_of, reverts_later}
use Rattle.tsb_laws.proofs.safety.SideSoughtLemmas.{Found, some_found}
use Rattle.tsb_laws.proofs.safety.CrossingRingLemmas.{is_over}
use Rattle.tsb_laws.proofs.safety.PreemptPhaseLemmas.{in_range_run, Wants, wants_one}
use Rattle.tsb_laws.proofs.safety.AllRedRingLemmas.{IsServing, SomeWanted, by_target, by_calls, completes_now, starts_committed, started_by, enters_in_target, Outcome, starts, enters, outcome}

-- ## What the rings are given

pub ring_is : (plan : Plan) (p : ℕ) → 1 ≤ ring_of plan p → ring_of plan p ≤ 2 → (r : Ring) × (in_ring plan r p ≡ true)
ring_is plan p low high =
    elim (cases_Bool (ring_of plan p == 1)) [
      | inl h ↦ (Ring1, h)
      | inr h ↦ (let two : ring_of plan p ≡ 2 = grind (arith, nat_tests, h, low, high) in (Ring2, eq-eqb (ring_of plan p) 2 two))
    ]

-- while all is red no ring has a phase in service
idle_now : (s : State) (row : Row) (r : Ring) → IsAllRed s → serving s.plan (rings_given s row) r ≡ None
unfolding serving rings_given
idle_now s row r red = go (first test (phases s.plan)) refl
  where
    test : ℕ → Bool
    test = λ p. in_ring s.plan r p && in_service (interval s p)

    go : (o : Option ℕ) → first test (phases s.plan) ≡ o → first test (phases s.plan) ≡ None
    go None e = e
    go (Some p) e = absurd (true≢false (sym (and_parts (in_ring s.plan r p) (in_service (interval s p)) (first-passes test (phases s.plan) p e)).1 ∙ red p))

module _ (s : State) (row : Row) (good : IsGood s) (few : s.plan.phase_count ≤ 16) (range : IsInRange s.plan) where
  listed_on : (p : ℕ) → is_enabled s.plan p ≡ true → IsListed s.plan p
  listed_on p on = enabled_is_listed s.plan good.plan p on

  ringed_on : (p : ℕ) → is_enabled s.plan p ≡ true → (r : Ring) × (in_ring s.plan r p ≡ true)
  ringed_on p on =
      let it : IsPlaced s.plan p = placed s.plan good.plan.rules p (listed_is_phase s.plan p (listed_on p on)) on in ring_is s.plan p it.ring_from it.ring_to

  sequenced_on : (r : Ring) (p : ℕ) → is_enabled s.plan p ≡ true → in_ring s.plan r p ≡ true → among p ((rings_given s row).sequence r) ≡ true
  unfolding rings_given
  sequenced_on r p on own =
      let n : ℕ = sequence_in_effect s.plan (running s.plan s.pattern) in
      let lists : ListsRing s.plan (number r) (sequence s.plan n (number r)) = lists_ring s.plan n r (lists_now s.plan good.plan.rules s.pattern good.pattern) in
      lists.each p (listed_is_phase s.plan p (listed_on p on)) on (eqb-true (ring_of s.plan p) (number r) own)

  reverted_on : ((p : ℕ) → reverted s p ≡ true) → (p : ℕ) → IsListed s.plan p → (rings_given s row).reverted p ≡ true
  unfolding rings_given
  reverted_on back p listed = clipped_at (reverted s) s.plan p few listed ∙ back p

  serving_now : ((p : ℕ) → reverted s p ≡ true) → IsServing s.plan (rings_given s row)
  serving_now back = record {
    listed = listed_on;
    ringed = ringed_on;
    sequenced = sequenced_on;
    called_on = callable_on s row;
    reverted = reverted_on back;
  }

  wanted_now : is_wanted s (Tick row) ≡ true → SomeWanted s.plan (rings_given s row)
  unfolding rings_given new_service
  wanted_now h = go (new_service s row) refl
    where
      go : (o : Option Service) → new_service s row ≡ o → SomeWanted s.plan (rings_given s row)
      go None e =
          let none : is_some (service s row) ≡ false = ap (λ (x : Option Service). is_some (option_map (λ y. y.preempt) x)) e in
          let q : Found (callable s row) (phases s.plan) = some_found (callable s row) (phases s.plan) (rw none at h) in
          by_calls q.one (ap (λ (x : Option Service). wanted_by s.plan x) e) (clipped_at (callable s row) s.plan q.one few q.listed ∙ q.passes)
      go (Some x) e =
          let w : Wants s.plan x = wants_one s.plan x good.plan.rules few range (new_in_stage s row good x e) in
          by_target (stage_phases s.plan x.preempt x.stage) w.one (ap (λ (y : Option Service). wanted_by s.plan y) e) w.listed w.targeted

-- ## A tick

-- the rings after a tick that leaves all red
pub data After (s : State) (row : Row) : Type 0 where
  fresh : is_some s.rings.crossing ≡ true → (step s (Tick row)).rings.crossing ≡ None → After s row
  crosses : (d : ℕ) (r : Ring) (c : ℕ) → (step s (Tick row)).rings.crossing ≡ Some d → (step s (Tick row)).rings.commitment r ≡ Some c → After s row

module _ (s : State) (row : Row) (good : IsGood s) (few : s.plan.phase_count ≤ 16) (range : IsInRange s.plan) (dark : s.trip ≡ None) (red : IsAllRed s) (still : IsAllRed (step s (Tick row))) (back : (p : ℕ) → reverted s p ≡ true) where
  idle : (r : Ring) → serving s.plan (rings_given s row) r ≡ None
  idle r = idle_now s row r red

  none_starts : (r : Ring) (p : ℕ) → starting s.plan s.rings (rings_given s row) r ≡ Some p → ⊥
  unfolding moves
  none_starts r p e =
      let on : is_started (moves s row) p ≡ true = started_by s.plan s.rings (rings_given s row) r p e in
      let green : interval (step s (Tick row)) p ≡ Green = at_next s row p dark ∙ rw on refl in
      true≢false (sym (ap in_service green) ∙ still p)

  back_all : (r : Ring) (c : ℕ) → s.rings.commitment r ≡ Some c → (rings_given s row).reverted c ≡ true
  back_all r c e = reverted_on s row good few range back c (good.rings.owned r c e).1

  -- no commitment outlasts it
  pub none_committed : (r : Ring) (c : ℕ) → s.rings.commitment r ≡ Some c → ⊥
  none_committed r c e = none_starts r c (starts_committed s.plan s.rings (rings_given s row) idle r c back_all e)

  free : (r : Ring) → s.rings.commitment r ≡ None
  free r = go (s.rings.commitment r) refl
    where
      go : (o : Option ℕ) → s.rings.commitment r ≡ o → s.rings.commitment r ≡ None
      go None e = e
      go (Some c) e = absurd (none_committed r c e)

  told : IsGiven s.plan (rings_given s row)
  told = given s row good

  even : IsSymmetric s.plan
  even = symmetric s.plan good.plan.rules

  -- a crossing that commits no ring is completed
  ends_crossing : (d : ℕ) → s.rings.crossing ≡ Some d → After s row
  unfolding rings_next rings_given
  ends_crossing d e =
      fresh (ap is_some e)
      (ap (λ (x : rings.State). x.crossing) (rings_then s row dark)
      ∙ outside_then s row
      (is_over s.plan s.rings (rings_given s row) (yellow_done s) even good.rings told d e
      (completes_now s.plan s.rings (rings_given s row) idle back_all (ap is_some e))))

  -- what a crossing that begins commits the rings to is of the target, and so they give up none of it
  all_kept : begins s.plan s.rings (rings_given s row) ≡ true → (next s row).rings ≡ (after_moves s row).rings
  unfolding rings_given rings_next given_up
  all_kept b = by_rings (λ (x : rings.State). x ≡ (after_moves s row).rings) s row refl (go (target s row) refl)
    where
      go : (t : Option (ℕ → Bool)) → target s row ≡ t → given_up s.plan t (after_moves s row).rings ≡ (after_moves s row).rings
      go None e = refl
      go (Some t) e =
          all_stays s.plan t (after_moves s row).rings (λ r c h. enters_in_target s.plan s.rings (rings_given s row) t r c e b h)

  rings_entered : begins s.plan s.rings (rings_given s row) ≡ true → (step s (Tick row)).rings ≡ (after_moves s row).rings
  rings_entered b = rings_then s row dark ∙ all_kept b

  -- without one a crossing begins
  begins_crossing : s.rings.crossing ≡ None → is_wanted s (Tick row) ≡ true → After s row
  unfolding rings_next new_crossing
  begins_crossing out wanted =
      go (outcome s.plan s.rings (rings_given s row) idle out free (serving_now s row good few range back) good.plan.rules told.pairwise (wanted_now s row good few range wanted))
    where
      go : Outcome s.plan s.rings (rings_given s row) → After s row
      go (starts r p e) = absurd (none_starts r p e)
      go (enters r c b e) =
          crosses (target_side s.plan s.rings (rings_given s row)) r c (ap (λ (x : rings.State). x.crossing) (rings_entered b) ∙ rw b refl)
          (ap (λ (x : rings.State). x.commitment r) (rings_entered b) ∙ e)

  pub after_it : is_wanted s (Tick row) ≡ true → After s row
  after_it wanted = go (s.rings.crossing) refl
    where
      go : (o : Option ℕ) → s.rings.crossing ≡ o → After s row
      go None e = begins_crossing e wanted
      go (Some d) e = ends_crossing d e

-- ## Along the run

red_now : (plan : Plan) (is later : List Input) → HasBeenRed plan is later → IsAllRed (replay plan (later ++ is))
red_now plan is [] h = h
red_now plan is (i ∷ later) h = h.1

module _ (plan : Plan) (base : List Input) (n : ℕ) (ok : IsConsistent plan) (range : IsInRange plan) (few : plan.phase_count ≤ 16) where
  -- how far it has come: red reverts may not have passed; or no crossing is under way, and no ring is committed; or a crossing
  -- is under way that commits a ring
  data Progress (later : List Input) : Type 0 where
    early : (replay plan (later ++ base)).now ≤ (replay plan base).now + n → Progress later
    free_now : (replay plan (later ++ base)).rings.crossing ≡ None → (replay plan (later ++ base)).now ≤ (replay plan base).now + n + 1 → Progress later
    crossing_now : (r : Ring) (c : ℕ) → (replay plan (later ++ base)).rings.commitment r ≡ Some c →
        (replay plan (later ++ base)).now ≤ (replay plan base).now + n + 2 → Progress later

  record Stage (later : List Input) : Type 0 where
    pub reverts : (p : ℕ) → (replay plan (later ++ base)).now
        ≤ (replay plan base).now + held_for (λ s. not (is_green (interval s p) || is_yellow (interval s p))) plan (later ++ base)
    pub progress : Progress later

  few_now : (is : List Input) → (replay plan is).plan.phase_count ≤ 16
  few_now is = let same = count_run plan is in omega (arith, same, few)

  range_now : (later : List Input) → AreTaken plan (later ++ base) → IsInRange (replay plan (later ++ base)).plan
  range_now later taken = in_range_run plan (later ++ base) ok taken range

  held_red : (i : Input) (later : List Input) (p : ℕ) → IsAllRed (replay plan (later ++ base)) → IsAllRed (replay plan (i ∷ (later ++ base))) →
      held_for (λ s. not (is_green (interval s p) || is_yellow (interval s p))) plan (i ∷ (later ++ base))
      ≡ ticks_of (kind_of i) + held_for (λ s. not (is_green (interval s p) || is_yellow (interval s p))) plan (later ++ base)
  held_red i later p was now =
      held_on (λ s. not (is_green (interval s p) || is_yellow (interval s p))) plan i (later ++ base)
      (dark_of (interval (replay plan (i ∷ (later ++ base))) p) (now p)) (dark_of (interval (replay plan (later ++ base)) p) (was p))

  -- an input that is no tick
  still : (i : Input) (later : List Input) → IsAllRed (replay plan (later ++ base)) → IsAllRed (replay plan (i ∷ (later ++ base))) → ticks_of (kind_of i) ≡ 0 →
      IsSame (replay plan (later ++ base)) (step (replay plan (later ++ base)) i) → Stage later → Stage (i ∷ later)
  still i later was now none same stage = record { reverts = reverts; progress = go stage.progress }
    where
      clock : (replay plan (i ∷ (later ++ base))).now ≡ (replay plan (later ++ base)).now
      clock = same.now

      reverts : (p : ℕ) → (replay plan (i ∷ (later ++ base))).now
          ≤ (replay plan base).now + held_for (λ s. not (is_green (interval s p) || is_yellow (interval s p))) plan (i ∷ (later ++ base))
      reverts p =
          let held = held_red i later p was now in
          let before = stage.reverts p in
          omega (arith, clock, held, none, before)

      go : Progress later → Progress (i ∷ later)
      go (early h) = early (omega (arith, clock, h))
      go (free_now e h) = free_now (same.crossing ∙ e) (omega (arith, clock, h))
      go (crossing_now r c e h) = crossing_now r c (same.commitment r ∙ e) (omega (arith, clock, h))

  -- a tick
  ticked_on : (row : Row) (later : List Input) → AreTaken plan (later ++ base) → (replay plan (later ++ base)).trip ≡ None →
      IsAllRed (replay plan (later ++ base)) → IsAllRed (replay plan (Tick row ∷ (later ++ base))) → is_wanted (replay plan (later ++ base)) (Tick row) ≡ true →
      ((p : ℕ) → largest (λ x. red_revert x p) plan base later ≤ n) → Stage later → Stage (Tick row ∷ later)
  ticked_on row later taken dark was now wanted limit stage = record { reverts = reverts; progress = progress (nat_le (s.now + 1) ((replay plan base).now + n)) refl }
    where
      s : State
      s = replay plan (later ++ base)

      clock : (replay plan (Tick row ∷ (later ++ base))).now ≡ (replay plan (later ++ base)).now + 1
      clock = one_later (replay plan (later ++ base)) row

      reverts : (p : ℕ) → (replay plan (Tick row ∷ (later ++ base))).now
          ≤ (replay plan base).now + held_for (λ s. not (is_green (interval s p) || is_yellow (interval s p))) plan (Tick row ∷ (later ++ base))
      reverts p =
          let held : held_for (λ s. not (is_green (interval s p) || is_yellow (interval s p))) plan (Tick row ∷ (later ++ base))
          ≡ 1 + held_for (λ s. not (is_green (interval s p) || is_yellow (interval s p))) plan (later ++ base) = held_red (Tick row) later p was now in
          let before = stage.reverts p in
          omega (arith, clock, held, before)

      -- once so many ticks have passed each red revert has
      back : (replay plan base).now + n < (replay plan (later ++ base)).now + 1 → (p : ℕ) → reverted (replay plan (later ++ base)) p ≡ true
      back long p =
          elim (cases_Bool (reverted (replay plan (later ++ base)) p)) [
            | inl h ↦ h
            | inr h ↦ (let soon = reverts_later plan (later ++ base) p ok taken dark (was p) h in
                let most = largest_now (λ x. red_revert x p) plan base later in
                let bound = limit p in
                let before = stage.reverts p in
                absurd (omega (arith, long, soon, most, bound, before)))
          ]

      by : (replay plan base).now + n < (replay plan (later ++ base)).now + 1 → After (replay plan (later ++ base)) row → Progress later → Progress (Tick row ∷ later)
      by long (crosses d r c e f) (early h) = crossing_now r c f (omega (arith, clock, h))
      by long (crosses d r c e f) (free_now k h) = crossing_now r c f (omega (arith, clock, h))
      by long (crosses d r c e f) (crossing_now x y k h) =
          absurd (none_committed (replay plan (later ++ base)) row (good_run plan (later ++ base) ok taken) (few_now (later ++ base)) (range_now later taken) dark was now (back long) x y k)
      by long (fresh u e) (early h) = free_now e (omega (arith, clock, h))
      by long (fresh u e) (free_now k h) = absurd (true≢false (sym u ∙ ap is_some k))
      by long (fresh u e) (crossing_now x y k h) =
          absurd (none_committed (replay plan (later ++ base)) row (good_run plan (later ++ base) ok taken) (few_now (later ++ base)) (range_now later taken) dark was now (back long) x y k)

      progress : (b : Bool) → nat_le (s.now + 1) ((replay plan base).now + n) ≡ b → Progress (Tick row ∷ later)
      progress true h = let soon : s.now + 1 ≤ (replay plan base).now + n = leb-true (s.now + 1) ((replay plan base).now + n) h in early (omega (arith, clock, soon))
      progress false h =
          let long : (replay plan base).now + n < (replay plan (later ++ base)).now + 1 = grind (arith, nat_tests, h) in
          by long
          (after_it (replay plan (later ++ base)) row (good_run plan (later ++ base) ok taken) (few_now (later ++ base)) (range_now later taken) dark was now (back long) wanted)
          stage.progress

  limit_before : (i : Input) (later : List Input) → ((p : ℕ) → largest (λ x. red_revert x p) plan base (i ∷ later) ≤ n) → (p : ℕ) →
      largest (λ x. red_revert x p) plan base later ≤ n
  limit_before i later limit p =
      let more = largest_more (λ x. red_revert x p) plan base later i in
      let bound = limit p in
      omega (arith, more, bound)

  one_on : (i : Input) (later : List Input) → AreTaken plan (i ∷ (later ++ base)) → (replay plan (later ++ base)).trip ≡ None →
      HasBeenRed plan base (i ∷ later) → HasBeenWanted plan base (i ∷ later) → ((p : ℕ) → largest (λ x. red_revert x p) plan base later ≤ n) →
      Stage later → Stage (i ∷ later)
  one_on i later taken dark red wanted limit before = go (goes (replay plan (later ++ base)) i dark)
    where
      tick : (row : Row) → AreTaken plan (Tick row ∷ (later ++ base)) → HasBeenRed plan base (Tick row ∷ later) → HasBeenWanted plan base (Tick row ∷ later) →
          Stage (Tick row ∷ later)
      tick row there all want = ticked_on row later there.0 dark (red_now plan base later all.0) all.1 want.1 limit before

      go : Goes (replay plan (later ++ base)) i → Stage (i ∷ later)
      go (ticks row e) =
          subst (λ (j : Input). Stage (j ∷ later)) (sym e)
          (tick row (subst (λ (j : Input). AreTaken plan (j ∷ (later ++ base))) e taken) (subst (λ (j : Input). HasBeenRed plan base (j ∷ later)) e red)
          (subst (λ (j : Input). HasBeenWanted plan base (j ∷ later)) e wanted))
      go (stays none same) = still i later (red_now plan base later red.0) red.1 none same before

  stage : (later : List Input) → AreTaken plan (later ++ base) → IsUntripped plan base later → HasBeenRed plan base later → HasBeenWanted plan base later →
      ((p : ℕ) → largest (λ x. red_revert x p) plan base later ≤ n) → Stage later
  stage [] taken dark red wanted limit = record { reverts = λ p. omega arith; progress = early (omega arith) }
  stage (i ∷ later) taken dark red wanted limit =
      one_on i later taken (dark_now plan base later dark.0) red wanted (limit_before i later limit)
      (stage later taken.0 dark.0 red.0 wanted.0 (limit_before i later limit))

pub all_red_ends : (plan : Plan) (base later : List Input) (n : ℕ) → IsConsistent plan → IsInRange plan → plan.phase_count ≤ 16 →
    AreTaken plan (later ++ base) → IsUntripped plan base later → HasBeenRed plan base later → HasBeenWanted plan base later →
    ((p : ℕ) → largest (λ x. red_revert x p) plan base later ≤ n) →
    (replay plan (later ++ base)).now ≤ (replay plan base).now + n + 2
all_red_ends plan base later n ok range few taken dark red wanted limit =
    go (stage plan base n ok range few later taken dark red wanted limit).progress
  where
    go : Progress plan base n ok range few later → (replay plan (later ++ base)).now ≤ (replay plan base).now + n + 2
    go (early h) = omega (arith, h)
    go (free_now e h) = omega (arith, h)
    go (crossing_now r c e h) = omega (arith, h)
