-- What each wait says of the state is so.
use Rattle.std.proofs.Common.{◌≡◌, ℕ, ◌==◌, Bool, true, false, not, ◌&&◌, ◌||◌, if◌then◌else◌, Option, Some, None, is_some, is_none, option_map, IfSome, refl, subst, ap, inl, inr, ◌⊎◌}
use Rattle.std.proofs.lemmas.Bool.{and_parts}
use Rattle.std.proofs.lemmas.Option.{cond_some}
use Rattle.std.proofs.Math.Bool.{and-false}
use Rattle.tsb_types.specs.Intervals.{is_green}
use Rattle.tsb_types.specs.Lists.{or_else}
use Rattle.tsb_objects.specs.tsb_plan.Plan.{Plan, is_concurrent, side_of}
use Rattle.tsb_preempt.specs.Promises.{stage_of}
use Rattle.tsb_preempt.specs.Service.{Service, stage_phases}
use Rattle.tsb_ring.specs.Rings.{Ring, other, own_ring}
use Rattle.tsb_ring.proofs.EntryLemmas.{else_cases}
use Rattle.tsb_step.specs.declared.waits.Lack.{Lack}
use Rattle.tsb_step.specs.declared.waits.Wait.{Wait}
use Rattle.tsb_step.specs.declared.waits.Wait.TheVariants as waits
use Rattle.tsb_step.specs.State.{State, interval}
use Rattle.tsb_step.specs.Tick.{omitted}
use Rattle.tsb_step.specs.Waits.{first_wait, clearing_wait, red_revert_left, lack, served, is_over_next, is_reverted_next, not_over, not_reverted, not_concurrent, lacking, in_the_way, starts_beside, revert_wait, committed_wait, omit_wait, preempt_wait, crossing_wait, not_green, keeper, barrier_wait, green_with, green_wait, conflicting, free_wait, is_committed, is_waiting, wait, waits_for}
use Rattle.tsb_step.specs.WaitLaws.{Keeps, committed, here, across, IsClearing, IsInTheWay, IsKept}
use Rattle.tsb_step.proofs.HolderLemmas.{clearing-cases}

-- ## What may be none

pub first-cases : (a b : Option Wait) (w : Wait) → first_wait a b ≡ Some w → (a ≡ Some w) ⊎ ((a ≡ None) × (b ≡ Some w))
first-cases None b w h = inr (refl, h)
first-cases (Some v) b w h = inl h

-- a wait that names a phase
pub record Named (f : ℕ → Wait) (o : Option ℕ) (w : Wait) : Type 0 where
  pub one : ℕ
  pub there : o ≡ Some one
  pub gives : f one ≡ w

pub named : (f : ℕ → Wait) (o : Option ℕ) (w : Wait) → option_map f o ≡ Some w → Named f o w
named f None w h = absurd cc
named f (Some q) w h = record { one = q; there = refl; gives = cc }

pub none-named : (f : ℕ → Wait) (o : Option ℕ) → option_map f o ≡ None → o ≡ None
none-named f None h = refl
none-named f (Some q) h = absurd cc

-- a phase that is left out by a test
pub left-in : {A : Type 0} (b : Bool) (x y : A) → (if b then None else Some x) ≡ Some y → (b ≡ false) × (x ≡ y)
left-in true x y h = absurd cc
left-in false x y h = (refl, cc)

pub not-over : (s : State) (o : Option ℕ) (q : ℕ) → not_over s o ≡ Some q → (o ≡ Some q) × (is_over_next s q ≡ false)
not-over s None q h = absurd cc
not-over s (Some x) q h =
    let k = left-in (is_over_next s x) x q h in
    (ap Some k.1, subst (λ y. is_over_next s y ≡ false) k.1 k.0)

not-reverted : (s : State) (o : Option ℕ) (q : ℕ) → not_reverted s o ≡ Some q → (o ≡ Some q) × (is_reverted_next s q ≡ false)
not-reverted s None q h = absurd cc
not-reverted s (Some x) q h =
    let k = left-in (is_reverted_next s x) x q h in
    (ap Some k.1, subst (λ y. is_reverted_next s y ≡ false) k.1 k.0)

pub not-concurrent : (plan : Plan) (p : ℕ) (o : Option ℕ) (q : ℕ) → not_concurrent plan p o ≡ Some q →
    (o ≡ Some q) × (is_concurrent plan p q ≡ false)
not-concurrent plan p None q h = absurd cc
not-concurrent plan p (Some x) q h =
    let k = left-in (is_concurrent plan p x) x q h in
    (ap Some k.1, subst (λ y. is_concurrent plan p y ≡ false) k.1 k.0)

not-green : (s : State) (o : Option ℕ) (q : ℕ) → not_green s o ≡ Some q → o ≡ Some q
not-green s None q h = absurd cc
not-green s (Some x) q h = ap Some (left-in (is_green (interval s x)) x q h).1

lacks-one : (s : State) (o : Option ℕ) (q : ℕ) → lacking s o ≡ Some q →
    (o ≡ Some q) × (is_green (interval s q) ≡ true) × (is_some (lack s q) ≡ true)
lacks-one s None q h = absurd cc
lacks-one s (Some x) q h =
    let k = cond_some (is_green (interval s x) && is_some (lack s x)) x q h in
    let both = and_parts (is_green (interval s x)) (is_some (lack s x)) k.0 in
    (ap Some k.1, subst (λ y. is_green (interval s y) ≡ true) k.1 both.0, subst (λ y. is_some (lack s y) ≡ true) k.1 both.1)

-- ## A phase that its ring is committed to

revert-so : (s : State) (p : ℕ) (w : Wait) → revert_wait s p ≡ Some w → IsKept s p w
revert-so s p w h =
    let k = left-in (is_reverted_next s p) (waits.RedRevert (red_revert_left s p)) w h in
    subst (IsKept s p) k.1 (k.0, refl)

way-so : (s : State) (p : ℕ) (o : Option ℕ) (q : ℕ) → in_the_way s p o ≡ Some q →
    (o ≡ Some q) × (is_over_next s q ≡ false) × ((is_some s.rings.crossing || not (is_concurrent s.plan p q)) ≡ true)
way-so s p o q h = go (is_some s.rings.crossing) h
  where
    go : (b : Bool) → (if b then not_over s o else not_concurrent s.plan p (not_over s o)) ≡ Some q →
        (o ≡ Some q) × (is_over_next s q ≡ false) × ((b || not (is_concurrent s.plan p q)) ≡ true)
    go true x = let k = not-over s o q x in (k.0, k.1, refl)
    go false x =
        let j = not-concurrent s.plan p (not_over s o) q x in
        let k = not-over s o q j.0 in
        (k.0, k.1, ap not j.1)

beside-so : (s : State) (o : Option ℕ) (c : ℕ) → starts_beside s o ≡ Some c →
    (is_some s.rings.crossing ≡ true) × (o ≡ Some c) × (is_reverted_next s c ≡ false)
beside-so s o c h = go (is_some s.rings.crossing) h
  where
    go : (b : Bool) → (if b then not_reverted s o else None) ≡ Some c → (b ≡ true) × (o ≡ Some c) × (is_reverted_next s c ≡ false)
    go true x = let k = not-reverted s o c x in (refl, k.0, k.1)
    go false x = absurd cc

committed-so : (s : State) (p : ℕ) (w : Wait) → is_committed s p ≡ true → committed_wait s p (own_ring s.plan p) ≡ Some w → IsKept s p w
unfolding committed_wait
committed-so s p w own h =
    elim (first-cases clears (first_wait reverts (first_wait way (first_wait with_other (Some waits.Due)))) w h) [
      | inl a ↦ clears-so (named clearing (not_over s (served s r)) w a)
      | inr a ↦
          elim (first-cases reverts (first_wait way (first_wait with_other (Some waits.Due))) w a.1) [
            | inl b ↦ revert-so s p w b
            | inr b ↦
                elim (first-cases way (first_wait with_other (Some waits.Due)) w b.1) [
                  | inl c ↦ across-so (named crossed (in_the_way s p (served s (other r))) w c)
                  | inr c ↦
                      elim (first-cases with_other (Some waits.Due) w c.1) [
                        | inl d ↦ with-so (named reverting (starts_beside s (s.rings.commitment (other r))) w d)
                        | inr d ↦ (let same : waits.Due ≡ w = cc in subst (IsKept s p) same own)
                      ]
                ]
          ]
    ]
  where
    r : Ring
    r = own_ring s.plan p

    clearing : ℕ → Wait
    clearing q = clearing_wait s waits.Clears q

    crossed : ℕ → Wait
    crossed q = clearing_wait s waits.Across q

    reverting : ℕ → Wait
    reverting c = waits.Beside c (red_revert_left s c)

    clears : Option Wait
    clears = option_map clearing (not_over s (served s r))

    reverts : Option Wait
    reverts = revert_wait s p

    way : Option Wait
    way = option_map crossed (in_the_way s p (served s (other r)))

    with_other : Option Wait
    with_other = option_map reverting (starts_beside s (s.rings.commitment (other r)))

    clears-so : Named clearing (not_over s (served s r)) w → IsKept s p w
    clears-so n =
        let k = not-over s (served s r) n.one n.there in
        let is : IsClearing s p n.one = record { serves = k.0; clears = rw k.1 refl } in
        subst (IsKept s p) n.gives (clearing-cases s waits.Clears n.one (IsKept s p) (is, refl) (λ o m held. (inl is, held)))

    across-so : Named crossed (in_the_way s p (served s (other r))) w → IsKept s p w
    across-so n =
        let k = way-so s p (served s (other r)) n.one n.there in
        let is : IsInTheWay s p n.one = record { serves = k.0; clears = k.1; apart = k.2 } in
        subst (IsKept s p) n.gives (clearing-cases s waits.Across n.one (IsKept s p) (own, is, refl) (λ o m held. (inr (own, is), held)))

    with-so : Named reverting (starts_beside s (s.rings.commitment (other r))) w → IsKept s p w
    with-so n =
        let k = beside-so s (s.rings.commitment (other r)) n.one n.there in
        subst (IsKept s p) n.gives (own, record { crosses = k.0; beside = k.1; reverts = k.2 }, refl)

-- ## Any other

omit-so : (s : State) (p : ℕ) (w : Wait) → is_committed s p ≡ false → omit_wait s p ≡ Some w → IsKept s p w
omit-so s p w free h =
    let k = cond_some (omitted s p && is_none s.preempts.service) waits.Omitted w h in
    subst (IsKept s p) k.1 (free, (and_parts (omitted s p) (is_none s.preempts.service) k.0).0)

preempt-so : (s : State) (p : ℕ) (w : Wait) (o : Option Service) → is_committed s p ≡ false → s.preempts.service ≡ o →
    preempt_wait s.plan p o ≡ Some w → IsKept s p w
preempt-so s p w None free e h = absurd cc
preempt-so s p w (Some x) free e h =
    let k = left-in (stage_phases s.plan x.preempt x.stage p) (waits.Preempted x.preempt) w h in
    subst (IsKept s p) k.1 (free, record { stage = x.stage; serves = ap stage_of e; outside = k.0 })

next-so : (s : State) (p : ℕ) (w : Wait) → is_committed s p ≡ false → Named waits.Next (s.rings.commitment (own_ring s.plan p)) w → IsKept s p w
next-so s p w free n = subst (IsKept s p) n.gives (n.there, free)

crossing-so : (s : State) (p : ℕ) (w : Wait) → is_committed s p ≡ false → crossing_wait s (own_ring s.plan p) ≡ Some w → IsKept s p w
crossing-so s p w free h =
    let k = cond_some (is_some s.rings.crossing) (waits.Crossing kept) w h in
    subst (IsKept s p) k.1 (free, k.0, so kept refl)
  where
    r : Ring
    r = own_ring s.plan p

    kept : Option ℕ
    kept = or_else (not_over s (served s r)) (not_over s (served s (other r)))

    so : (o : Option ℕ) → kept ≡ o → IfSome o (λ q. (is_over_next s q ≡ false) × ((served s r ≡ Some q) ⊎ (served s (other r) ≡ Some q)))
    so None e = tt
    so (Some q) e =
        elim (else_cases (not_over s (served s r)) (not_over s (served s (other r))) q e) [
          | inl a ↦ (let k = not-over s (served s r) q a in (k.1, inl k.0))
          | inr a ↦ (let k = not-over s (served s (other r)) q a.1 in (k.1, inr k.0))
        ]

barrier-so : (s : State) (p : ℕ) (w : Wait) → is_committed s p ≡ false → barrier_wait s p (own_ring s.plan p) ≡ Some w → IsKept s p w
barrier-so s p w free h =
    let k = left-in (side_of s.plan p == s.rings.side) (waits.Barrier kept) w h in
    subst (IsKept s p) k.1 (free, k.0, so kept refl)
  where
    r : Ring
    r = own_ring s.plan p

    kept : Option ℕ
    kept = keeper s r

    greens : (q : ℕ) → or_else (lacking s (served s r)) (lacking s (served s (other r))) ≡ Some q → Keeps s p q
    greens q e =
        elim (else_cases (lacking s (served s r)) (lacking s (served s (other r))) q e) [
          | inl a ↦ (let k = lacks-one s (served s r) q a in here k.0 k.1 k.2)
          | inr a ↦ (let k = lacks-one s (served s (other r)) q a.1 in across k.0 k.1 k.2)
        ]

    so : (o : Option ℕ) → kept ≡ o → IfSome o (Keeps s p)
    so None e = tt
    so (Some q) e =
        elim (else_cases (s.rings.commitment (other r)) (or_else (lacking s (served s r)) (lacking s (served s (other r)))) q e) [
          | inl a ↦ committed a
          | inr a ↦ greens q a.1
        ]

green-so : (s : State) (p : ℕ) (w : Wait) (o : Option ℕ) → s.rings.commitment (own_ring s.plan p) ≡ None → served s (own_ring s.plan p) ≡ o →
    green_wait s o ≡ Some w → IsKept s p w
green-so s p w None free e h = absurd cc
green-so s p w (Some q) free e h = go (is_green (interval s q)) (lack s q) refl refl h
  where
    go : (b : Bool) (l : Option Lack) → is_green (interval s q) ≡ b → lack s q ≡ l → (if b then green_with q l else None) ≡ Some w → IsKept s p w
    go false l g k x = absurd cc
    go true None g k x = absurd cc
    go true (Some l) g k x =
        let same : waits.Green q l ≡ w = cc in
        subst (IsKept s p) same (record { free = free; serves = e; green = g; lacks = k })

conflict-so : (s : State) (p : ℕ) (w : Wait) → is_committed s p ≡ false → Named waits.Conflict (conflicting s p (own_ring s.plan p)) w → IsKept s p w
conflict-so s p w free n =
    subst (IsKept s p) n.gives (
      free,
      elim (else_cases (not_concurrent s.plan p (served s (other r))) (not_concurrent s.plan p (s.rings.commitment (other r))) n.one n.there) [
        | inl a ↦ (let k = not-concurrent s.plan p (served s (other r)) n.one a in record { there = inl k.0; apart = k.1 })
        | inr a ↦ (let k = not-concurrent s.plan p (s.rings.commitment (other r)) n.one a.1 in record { there = inr k.0; apart = k.1 })
      ],
    )
  where
    r : Ring
    r = own_ring s.plan p

-- the waits of free phases, from the one that comes after a commitment on
abbrev later_waits : State → ℕ → Ring → Option Wait
later_waits s p r =
    first_wait (crossing_wait s r)
    (first_wait (option_map (clearing_wait s waits.Clears) (not_green s (served s r)))
    (first_wait (revert_wait s p)
    (first_wait (barrier_wait s p r)
    (first_wait (green_wait s (served s r))
    (first_wait (option_map waits.Conflict (conflicting s p r))
    (Some waits.Turn))))))

later-so : (s : State) (p : ℕ) (w : Wait) → is_committed s p ≡ false → s.rings.commitment (own_ring s.plan p) ≡ None →
    later_waits s p (own_ring s.plan p) ≡ Some w → IsKept s p w
later-so s p w free none h =
    elim (first-cases (crossing_wait s r) from_clears w h) [
      | inl a ↦ crossing-so s p w free a
      | inr a ↦
          elim (first-cases clears from_revert w a.1) [
            | inl b ↦ clears-so (named clearing (not_green s (served s r)) w b)
            | inr b ↦
                elim (first-cases (revert_wait s p) from_barrier w b.1) [
                  | inl c ↦ revert-so s p w c
                  | inr c ↦
                      elim (first-cases (barrier_wait s p r) from_green w c.1) [
                        | inl d ↦ barrier-so s p w free d
                        | inr d ↦
                            elim (first-cases (green_wait s (served s r)) from_conflict w d.1) [
                              | inl e ↦ green-so s p w (served s r) none refl e
                              | inr e ↦
                                  elim (first-cases (option_map waits.Conflict (conflicting s p r)) (Some waits.Turn) w e.1) [
                                    | inl f ↦ conflict-so s p w free (named waits.Conflict (conflicting s p r) w f)
                                    | inr f ↦ (let same : waits.Turn ≡ w = cc in subst (IsKept s p) same free)
                                  ]
                            ]
                      ]
                ]
          ]
    ]
  where
    r : Ring
    r = own_ring s.plan p

    clearing : ℕ → Wait
    clearing q = clearing_wait s waits.Clears q

    clears : Option Wait
    clears = option_map clearing (not_green s (served s r))

    from_conflict : Option Wait
    from_conflict = first_wait (option_map waits.Conflict (conflicting s p r)) (Some waits.Turn)

    from_green : Option Wait
    from_green = first_wait (green_wait s (served s r)) from_conflict

    from_barrier : Option Wait
    from_barrier = first_wait (barrier_wait s p r) from_green

    from_revert : Option Wait
    from_revert = first_wait (revert_wait s p) from_barrier

    from_clears : Option Wait
    from_clears = first_wait clears from_revert

    clears-so : Named clearing (not_green s (served s r)) w → IsKept s p w
    clears-so n =
        let is : IsClearing s p n.one = record {
          serves = not-green s (served s r) n.one n.there;
          clears = rw none (and-false (is_over_next s n.one));
        } in
        subst (IsKept s p) n.gives (clearing-cases s waits.Clears n.one (IsKept s p) (is, refl) (λ o m held. (inl is, held)))

free-so : (s : State) (p : ℕ) (w : Wait) → is_committed s p ≡ false → free_wait s p (own_ring s.plan p) ≡ Some w → IsKept s p w
unfolding free_wait
free-so s p w free h =
    elim (first-cases (omit_wait s p) from_preempt w h) [
      | inl a ↦ omit-so s p w free a
      | inr a ↦
          elim (first-cases (preempt_wait s.plan p s.preempts.service) from_next w a.1) [
            | inl b ↦ preempt-so s p w s.preempts.service free refl b
            | inr b ↦
                elim (first-cases (option_map waits.Next (s.rings.commitment r)) (later_waits s p r) w b.1) [
                  | inl c ↦ next-so s p w free (named waits.Next (s.rings.commitment r) w c)
                  | inr c ↦ later-so s p w free (none-named waits.Next (s.rings.commitment r) c.0) c.1
                ]
          ]
    ]
  where
    r : Ring
    r = own_ring s.plan p

    from_next : Option Wait
    from_next = first_wait (option_map waits.Next (s.rings.commitment r)) (later_waits s p r)

    from_preempt : Option Wait
    from_preempt = first_wait (preempt_wait s.plan p s.preempts.service) from_next

-- ## Whatever it is

pub wait-is-so : (s : State) (p : ℕ) (w : Wait) → wait s p ≡ Some w → IsKept s p w
unfolding wait
wait-is-so s p w h = go (is_some s.trip) (is_committed s p) refl refl h
  where
    go : (b c : Bool) → is_some s.trip ≡ b → is_committed s p ≡ c →
        (if b then Some waits.Flash else (if c then committed_wait s p (own_ring s.plan p) else free_wait s p (own_ring s.plan p))) ≡ Some w →
        IsKept s p w
    go true c e k x = let same : waits.Flash ≡ w = cc in subst (IsKept s p) same e
    go false true e k x = committed-so s p w k x
    go false false e k x = free-so s p w k x

-- the wait of a phase that is called and not Green
pub is-wait : (s : State) (p : ℕ) (w : Wait) → waits_for s p ≡ Some w → wait s p ≡ Some w
is-wait s p w h = go (is_waiting s p) h
  where
    go : (b : Bool) → (if b then wait s p else None) ≡ Some w → wait s p ≡ Some w
    go true x = x
    go false x = absurd cc

pub waits-are-so : (s : State) (p : ℕ) (w : Wait) → waits_for s p ≡ Some w → IsKept s p w
waits-are-so s p w h = wait-is-so s p w (is-wait s p w h)
