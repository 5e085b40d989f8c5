-- A phase that waits for nothing starts; and for how long a green that lacks something keeps its ring and the barrier.
use Rattle.std.proofs.Common.{◌≡◌, ℕ, Bool, true, false, ◌&&◌, ◌||◌, if◌then◌else◌, Option, Some, None, is_some, option_map, refl, sym, subst, ap, ◌∙◌, inl, inr}
use Rattle.std.proofs.lemmas.Bool.{cases_Bool, eq-eqb, not-true, true≢false}
use Rattle.std.proofs.Math.Bool.{and-false}
use Rattle.tsb_types.specs.declared.row.Row.{Row}
use Rattle.tsb_types.specs.Clip.{clipped}
use Rattle.tsb_types.specs.Intervals.{is_green, is_dont_walk}
use Rattle.tsb_types.specs.Lists.{is}
use Rattle.tsb_cells.specs.Timer.{has_reached}
use Rattle.tsb_objects.specs.tsb_plan.Plan.{Plan, is_concurrent}
use Rattle.tsb_phase.specs.Green.{initial_has_passed}
use Rattle.tsb_phase.specs.Pedestrian.{ended_by, pedestrian_now}
use Rattle.tsb_phase.specs.Phase as phase
use Rattle.tsb_phase.specs.Phase.{Phase}
use Rattle.tsb_phase.specs.Ready.{is_ready, green_is_done, may_end}
use Rattle.tsb_ring.specs.declared.want.Want.{Want}
use Rattle.tsb_ring.specs.declared.want.Want.TheVariants.{Go, Cross, Rest, Stop}
use Rattle.tsb_ring.specs.Rings as rings
use Rattle.tsb_ring.specs.Rings.{Ring, Ring1, Ring2, other, own_ring, serving}
use Rattle.tsb_ring.specs.Wants.{taken, want_of, pick}
use Rattle.tsb_ring.specs.Crossings.{joins, begins, committed}
use Rattle.tsb_ring.specs.Next as rings_next
use Rattle.tsb_ring.proofs.GivenUpLemmas.{none_given}
use Rattle.tsb_step.proofs.GiveUpLemmas.{by_rings}
use Rattle.tsb_ring.specs.Next.{is_none_or_over, makes_way, may_start, completes, start_now, starting, new_commitment}
use Rattle.tsb_ring.specs.Moves as ring_moves
use Rattle.tsb_ring.specs.Moves.{is_ended, is_started}
use Rattle.tsb_ring.proofs.ActLemmas.{begins_not}
use Rattle.tsb_ring.proofs.MoveLemmas.{is-Some, begins_joined}
use Rattle.tsb_ring.proofs.StillLemmas.{joins_not}
use Rattle.tsb_step.specs.declared.waits.Lack.{Lack}
use Rattle.tsb_step.specs.declared.waits.Lack.TheVariants as lacks
use Rattle.tsb_step.specs.declared.waits.Wait.{Wait}
use Rattle.tsb_step.specs.declared.waits.Wait.TheVariants as waits
use Rattle.tsb_step.specs.State.{State, interval}
use Rattle.tsb_step.specs.Tick.{phases_given, phase_read, rings_given, moves, ready, next, target, after_moves}
use Rattle.tsb_step.specs.Waits.{first_wait, clearing_wait, until_over, red_revert_left, time_to_last, served, is_over_next, is_reverted_next, not_over, not_reverted, not_concurrent, in_the_way, starts_beside, revert_wait, committed_wait, free_wait, is_committed, wait, waits_for}
use Rattle.tsb_step.specs.WaitLaws.{Keeps, committed as keeps_committed, here, across, still_lacks}
use Rattle.tsb_step.proofs.ClipLemmas.{clipped_holds}
use Rattle.tsb_step.proofs.WaitSoLemmas.{first-cases, named, none-named, is-wait, wait-is-so}
use Rattle.tsb_step.proofs.WaitKeepLemmas.{served-is, reverted-as-told}
use Rattle.tsb_step.proofs.HolderLemmas.{over-as-told, clearing-cases}
use Rattle.tsb_step.proofs.WaitedLemmas.{ended_was_ready}

-- ## A phase that waits for nothing

none-left : {A : Type 0} (b : Bool) (x : A) → (if b then None else Some x) ≡ None → b ≡ true
none-left true x h = refl
none-left false x h = absurd cc

-- a phase in service, if there is one, is over
is-over : (s : State) (row : Row) (r : Ring) → not_over s (served s r) ≡ None → is_none_or_over (rings_given s row) (serving s.plan (rings_given s row) r) ≡ true
is-over s row r h = subst (λ o. is_none_or_over (rings_given s row) o ≡ true) (sym (served-is s row r)) (go (served s r) h)
  where
    go : (o : Option ℕ) → not_over s o ≡ None → is_none_or_over (rings_given s row) o ≡ true
    go None k = refl
    go (Some q) k = over-as-told s row q ∙ none-left (is_over_next s q) q k

-- what is idle or over makes way
makes-way : (s : State) (row : Row) (c : ℕ) (r : Ring) → is_none_or_over (rings_given s row) (serving s.plan (rings_given s row) r) ≡ true →
    makes_way s.plan (rings_given s row) c (serving s.plan (rings_given s row) r) ≡ true
makes-way s row c r h = go (serving s.plan (rings_given s row) r) h
  where
    go : (o : Option ℕ) → is_none_or_over (rings_given s row) o ≡ true → makes_way s.plan (rings_given s row) c o ≡ true
    go None k = refl
    go (Some q) k = rw k (or-true (is_concurrent s.plan c q))
      where
        or-true : (b : Bool) → (b || true) ≡ true
        or-true true = refl
        or-true false = refl

other-other : (r : Ring) → other (other r) ≡ r
other-other Ring1 = refl
other-other Ring2 = refl

-- outside a crossing the other ring makes way, also where its phase is concurrent
way-made : (s : State) (row : Row) (p : ℕ) (r : Ring) → not_concurrent s.plan p (not_over s (served s r)) ≡ None →
    makes_way s.plan (rings_given s row) p (serving s.plan (rings_given s row) r) ≡ true
way-made s row p r h = subst (λ o. makes_way s.plan (rings_given s row) p o ≡ true) (sym (served-is s row r)) (go (served s r) h)
  where
    go : (o : Option ℕ) → not_concurrent s.plan p (not_over s o) ≡ None → makes_way s.plan (rings_given s row) p o ≡ true
    go None k = refl
    go (Some q) k = in_case (is_over_next s q) refl k
      where
        in_case : (b : Bool) → is_over_next s q ≡ b → not_concurrent s.plan p (if b then None else Some q) ≡ None →
            (is_concurrent s.plan p q || (rings_given s row).over q) ≡ true
        in_case true e x = rw (over-as-told s row q ∙ e) (or-true (is_concurrent s.plan p q))
          where
            or-true : (b : Bool) → (b || true) ≡ true
            or-true true = refl
            or-true false = refl
        in_case false e x = rw (none-left (is_concurrent s.plan p q) q x) refl

-- the commitment of a ring may start
may-start : (s : State) (row : Row) (r : Ring) (o : Option ℕ) → is_none_or_over (rings_given s row) (serving s.plan (rings_given s row) r) ≡ true →
    is_none_or_over (rings_given s row) (serving s.plan (rings_given s row) (other r)) ≡ true → not_reverted s o ≡ None →
    may_start s.plan (rings_given s row) r o ≡ true
may-start s row r None own far k = own
may-start s row r (Some c) own far k =
    let on : (rings_given s row).reverted c ≡ true = reverted-as-told s row c ∙ none-left (is_reverted_next s c) c k in
    rw (own, on, makes-way s row c (other r) far) refl

completes-by : (s : State) (row : Row) (r : Ring) → is_some s.rings.crossing ≡ true → may_start s.plan (rings_given s row) r (s.rings.commitment r) ≡ true →
    may_start s.plan (rings_given s row) (other r) (s.rings.commitment (other r)) ≡ true → completes s.plan s.rings (rings_given s row) ≡ true
unfolding completes
completes-by s row Ring1 on one two = rw (on, one, two) refl
completes-by s row Ring2 on two one = rw (on, one, two) refl

starts-now : (s : State) (row : Row) (r : Ring) (p : ℕ) → s.rings.commitment r ≡ Some p → starting s.plan s.rings (rings_given s row) r ≡ Some p →
    is_started (moves s row) p ≡ true
unfolding moves ring_moves.moves
starts-now s row Ring1 p e h = rw (h, eq-eqb p p refl) refl
starts-now s row Ring2 p e h = rw (h, eq-eqb p p refl) (or-true (is p (starting s.plan s.rings (rings_given s row) Ring1)))
  where
    or-true : (b : Bool) → (b || true) ≡ true
    or-true true = refl
    or-true false = refl

-- what is found where nothing keeps a phase that its ring is committed to
record Unkept (s : State) (p : ℕ) (r : Ring) : Type 0 where
  own : not_over s (served s r) ≡ None
  reverted : is_reverted_next s p ≡ true
  way : in_the_way s p (served s (other r)) ≡ None
  beside : starts_beside s (s.rings.commitment (other r)) ≡ None

-- a phase that clears is none
clearing-not-due : (s : State) (wait : ℕ → ℕ → Wait) (q : ℕ) → ((n : ℕ) → wait q n ≡ waits.Due → ⊥) → clearing_wait s wait q ≡ waits.Due → ⊥
clearing-not-due s wait q never = clearing-cases s wait q (λ w. w ≡ waits.Due → ⊥) (λ e. never (until_over s q) e) (λ o n held e. cc)

due-unkept : (s : State) (p : ℕ) (r : Ring) → committed_wait s p r ≡ Some waits.Due → Unkept s p r
unfolding committed_wait
due-unkept s p r h =
    elim (first-cases clears (first_wait (revert_wait s p) (first_wait way (first_wait with_other (Some waits.Due)))) waits.Due h) [
      | inl a ↦ (let n = named clearing (not_over s (served s r)) waits.Due a in absurd (clearing-not-due s waits.Clears n.one (λ m e. cc) n.gives))
      | inr a ↦
          elim (first-cases (revert_wait s p) (first_wait way (first_wait with_other (Some waits.Due))) waits.Due a.1) [
            | inl b ↦ absurd (reverts-not (is_reverted_next s p) b)
            | inr b ↦
                elim (first-cases way (first_wait with_other (Some waits.Due)) waits.Due b.1) [
                  | inl c ↦ (let n = named crossed (in_the_way s p (served s (other r))) waits.Due c in absurd (clearing-not-due s waits.Across n.one (λ m e. cc) n.gives))
                  | inr c ↦
                      elim (first-cases with_other (Some waits.Due) waits.Due c.1) [
                        | inl d ↦ (let n = named reverting (starts_beside s (s.rings.commitment (other r))) waits.Due d in let bad : waits.Beside n.one (red_revert_left s n.one) ≡ waits.Due = n.gives in absurd cc)
                        | inr d ↦ record {
                          own = none-named clearing (not_over s (served s r)) a.0;
                          reverted = none-left (is_reverted_next s p) (waits.RedRevert (red_revert_left s p)) b.0;
                          way = none-named crossed (in_the_way s p (served s (other r))) c.0;
                          beside = none-named reverting (starts_beside s (s.rings.commitment (other r))) d.0;
                        }
                      ]
                ]
          ]
    ]
  where
    clearing : ℕ → Wait
    clearing q = clearing_wait s waits.Clears q

    crossed : ℕ → Wait
    crossed q = clearing_wait s waits.Across q

    reverting : ℕ → Wait
    reverting c = waits.Beside c (red_revert_left s c)

    clears : Option Wait
    clears = option_map clearing (not_over s (served s r))

    way : Option Wait
    way = option_map crossed (in_the_way s p (served s (other r)))

    with_other : Option Wait
    with_other = option_map reverting (starts_beside s (s.rings.commitment (other r)))

    reverts-not : (b : Bool) → (if b then None else Some (waits.RedRevert (red_revert_left s p))) ≡ Some waits.Due → ⊥
    reverts-not true x = cc
    reverts-not false x = cc

unkept-starts : (s : State) (row : Row) (p : ℕ) (r : Ring) → s.rings.commitment r ≡ Some p → Unkept s p r →
    starting s.plan s.rings (rings_given s row) r ≡ Some p
unfolding starting
unkept-starts s row p r e k =
    subst (λ o. start_now s.plan s.rings (rings_given s row) r o ≡ Some p) (sym e) (go (is_some s.rings.crossing) refl k.way k.beside)
  where
    own : is_none_or_over (rings_given s row) (serving s.plan (rings_given s row) r) ≡ true
    own = is-over s row r k.own

    go : (b : Bool) → is_some s.rings.crossing ≡ b →
        (if b then not_over s (served s (other r)) else not_concurrent s.plan p (not_over s (served s (other r)))) ≡ None →
        (if b then not_reverted s (s.rings.commitment (other r)) else None) ≡ None →
        (if (if b then completes s.plan s.rings (rings_given s row) else may_start s.plan (rings_given s row) r (Some p)) then Some p else None) ≡ Some p
    go true on way beside =
        let far = is-over s row (other r) way in
        let mine : may_start s.plan (rings_given s row) r (s.rings.commitment r) ≡ true =
        subst (λ o. may_start s.plan (rings_given s row) r o ≡ true) (sym e)
        (may-start s row r (Some p) own far (rw k.reverted refl)) in
        let theirs : may_start s.plan (rings_given s row) (other r) (s.rings.commitment (other r)) ≡ true =
        may-start s row (other r) (s.rings.commitment (other r)) far
        (subst (λ x. is_none_or_over (rings_given s row) (serving s.plan (rings_given s row) x) ≡ true) (sym (other-other r)) own) beside in
        rw (completes-by s row r on mine theirs) refl
    go false on way beside =
        let reverted : (rings_given s row).reverted p ≡ true = reverted-as-told s row p ∙ k.reverted in
        rw (own, reverted, way-made s row p (other r) way) refl

is-committed : (s : State) (p : ℕ) → is_committed s p ≡ true → s.rings.commitment (own_ring s.plan p) ≡ Some p
is-committed s p h = is-Some p (s.rings.commitment (own_ring s.plan p)) h

committed-waits : (s : State) (p : ℕ) → is_committed s p ≡ true → wait s p ≡ Some waits.Due → committed_wait s p (own_ring s.plan p) ≡ Some waits.Due
unfolding wait
committed-waits s p own h = go (is_some s.trip) h
  where
    go : (b : Bool) → (if b then Some waits.Flash else (if is_committed s p then committed_wait s p (own_ring s.plan p) else free_wait s p (own_ring s.plan p))) ≡ Some waits.Due →
        committed_wait s p (own_ring s.plan p) ≡ Some waits.Due
    go true x = absurd cc
    go false x = rw own at x

pub due-starts : (s : State) (row : Row) (p : ℕ) → waits_for s p ≡ Some waits.Due → is_started (moves s row) p ≡ true
due-starts s row p h =
    let own = wait-is-so s p waits.Due (is-wait s p waits.Due h) in
    let e = is-committed s p own in
    starts-now s row (own_ring s.plan p) p e
    (unkept-starts s row p (own_ring s.plan p) e
    (due-unkept s p (own_ring s.plan p) (committed-waits s p own (is-wait s p waits.Due h))))

-- ## A green that lacks something

not-ready-done : (a b c : Bool) → c ≡ false → (a && (b && c)) ≡ false
not-ready-done a b c h = rw (h, and-false b) (and-false a)

time-lacks : (plan : Plan) (given : phase.Given) (p : ℕ) (w : Phase) (o : Option ℕ) → has_reached w.timer (time_to_last plan given p o) ≡ false →
    green_is_done plan given p w o ≡ false
time-lacks plan given p w None h = rw h refl
time-lacks plan given p w (Some n) h = h

cause-lacks : (plan : Plan) (given : phase.Given) (p : ℕ) (w : Phase) (o : Option ℕ) → (is_some o || may_end plan given p w) ≡ false →
    green_is_done plan given p w o ≡ false
cause-lacks plan given p w None h = rw h (and-false (initial_has_passed plan given p (phase.held_of w)))
cause-lacks plan given p w (Some n) h = absurd cc

pub lacks-keep : (s : State) (row : Row) (q : ℕ) (l : Lack) → still_lacks s row q l ≡ true → ready s row q ≡ false
unfolding is_ready
lacks-keep s row q l h = go l h
  where
    g : phase.Given
    g = phases_given s row

    w : Phase
    w = phase_read s q

    part : Bool
    part = is_dont_walk (pedestrian_now s.plan g q w)

    done : Bool
    done = green_is_done s.plan g q w (ended_by g q)

    not-yet : part ≡ false → (is_green w.interval && (part && done)) ≡ false
    not-yet h = ap (λ (b : Bool). is_green w.interval && (b && done)) h ∙ and-false (is_green w.interval)

    go : (l : Lack) → still_lacks s row q l ≡ true → (is_green w.interval && (part && done)) ≡ false
    go (lacks.Walk n) x = not-yet (not-true part x)
    go (lacks.Clearance n) x = not-yet (not-true part x)
    go (lacks.Initial n) x = not-ready-done (is_green w.interval) part done
        (time-lacks s.plan g q w (ended_by g q) (not-true (has_reached w.timer (time_to_last s.plan g q (ended_by g q))) x))
    go lacks.ForceOff x = not-ready-done (is_green w.interval) part done
        (cause-lacks s.plan g q w (ended_by g q) (not-true (is_some (ended_by g q) || may_end s.plan g q w) x))
    go (lacks.Gap n) x = not-ready-done (is_green w.interval) part done
        (cause-lacks s.plan g q w (ended_by g q) (not-true (is_some (ended_by g q) || may_end s.plan g q w) x))

-- ## Its ring and the barrier

not-told-ready : (s : State) (row : Row) (q : ℕ) → ready s row q ≡ false → (rings_given s row).ready q ≡ false
unfolding rings_given
not-told-ready s row q h =
    elim (cases_Bool (clipped (ready s row) q)) [
      | inl e ↦ absurd (true≢false (sym (clipped_holds (ready s row) q e) ∙ h))
      | inr e ↦ e
    ]

pub interval-as-told : (s : State) (row : Row) (q : ℕ) → (rings_given s row).interval q ≡ interval s q
unfolding rings_given
interval-as-told s row q = refl

none-begins : (s : State) (row : Row) (r : Ring) (q : ℕ) → served s r ≡ Some q → is_green (interval s q) ≡ true → ready s row q ≡ false →
    begins s.plan s.rings (rings_given s row) ≡ false
none-begins s row r q e green h =
    elim (cases_Bool (begins s.plan s.rings (rings_given s row))) [
      | inl k ↦
          (let joined = begins_joined s.plan s.rings (rings_given s row) r k in
          let in_service : joins (rings_given s row) (Some q) (s.rings.commitment r) (want_of s.plan s.rings (rings_given s row) r) ≡ true =
          subst (λ o. joins (rings_given s row) o (s.rings.commitment r) (want_of s.plan s.rings (rings_given s row) r) ≡ true) (served-is s row r ∙ e) joined in
          absurd (true≢false (sym in_service ∙ joins_not ((rings_given s row).interval q) ((rings_given s row).ready q)
          (want_of s.plan s.rings (rings_given s row) r) (s.rings.commitment r) (ap is_green (interval-as-told s row q) ∙ green) (not-told-ready s row q h))))
      | inr k ↦ k
    ]

no-crossing : (s : State) (row : Row) → begins s.plan s.rings (rings_given s row) ≡ false → (moves s row).crossing ≡ None
unfolding moves ring_moves.moves
no-crossing s row h = rw h refl

keeps-barrier : (s : State) (row : Row) (p q : ℕ) → Keeps s p q → (is_green (interval s q) ≡ true → ready s row q ≡ false) → (moves s row).crossing ≡ None
keeps-barrier s row p q (keeps_committed e) h = no-crossing s row (begins_not s.plan s.rings (rings_given s row) (other (own_ring s.plan p)) q e)
keeps-barrier s row p q (here e green l) h = no-crossing s row (none-begins s row (own_ring s.plan p) q e green (h green))
keeps-barrier s row p q (across e green l) h = no-crossing s row (none-begins s row (other (own_ring s.plan p)) q e green (h green))

pub keepers-keep : (s : State) (row : Row) (p q : ℕ) → waits_for s p ≡ Some (waits.Barrier (Some q)) →
    (is_green (interval s q) ≡ true → ready s row q ≡ false) → (moves s row).crossing ≡ None
keepers-keep s row p q h k =
    keeps-barrier s row p q (wait-is-so s p (waits.Barrier (Some q)) (is-wait s p (waits.Barrier (Some q)) h)).2 k

-- a ring with a phase in service that is not ready picks none
picks-none : (given : rings.Given) (q : ℕ) (w : Option Want) → given.ready q ≡ false → taken given (Some q) w ≡ None
picks-none given q None h = refl
picks-none given q (Some (Go x)) h = rw h refl
picks-none given q (Some Cross) h = refl
picks-none given q (Some Rest) h = refl
picks-none given q (Some Stop) h = refl

ring-moves : (s : State) (row : Row) (r : Ring) (q : ℕ) → s.rings.commitment r ≡ None → served s r ≡ Some q → is_green (interval s q) ≡ true →
    ready s row q ≡ false → (after_moves s row).rings.commitment r ≡ None
unfolding rings_next.next new_commitment committed starting pick
ring-moves s row r q none e green h =
    let serves = served-is s row r ∙ e in
    let begun = none-begins s row r q e green h in
    rw (none, begun, serves) (picks-none (rings_given s row) q (want_of s.plan s.rings (rings_given s row) r) (not-told-ready s row q h))

ring-stays : (s : State) (row : Row) (r : Ring) (q : ℕ) → s.rings.commitment r ≡ None → served s r ≡ Some q → is_green (interval s q) ≡ true →
    ready s row q ≡ false → (next s row).rings.commitment r ≡ None
ring-stays s row r q none e green h =
    let moved = ring-moves s row r q none e green h in
    by_rings (λ (x : rings.State). x.commitment r ≡ None) s row moved (none_given s.plan (target s row) (after_moves s row).rings r moved)

not-ended : (s : State) (row : Row) (q : ℕ) → ready s row q ≡ false → is_ended (moves s row) q ≡ false
not-ended s row q h =
    elim (cases_Bool (is_ended (moves s row) q)) [
      | inl e ↦ absurd (true≢false (sym (ended_was_ready s row q e) ∙ h))
      | inr e ↦ e
    ]

pub greens-keep : (s : State) (row : Row) (p q : ℕ) (l : Lack) → waits_for s p ≡ Some (waits.Green q l) → ready s row q ≡ false →
    (is_ended (moves s row) q ≡ false) × ((next s row).rings.commitment (own_ring s.plan p) ≡ None)
greens-keep s row p q l h k =
    let so = wait-is-so s p (waits.Green q l) (is-wait s p (waits.Green q l) h) in
    (not-ended s row q k, ring-stays s row (own_ring s.plan p) q so.free so.serves so.green k)
