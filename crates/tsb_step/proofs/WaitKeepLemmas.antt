-- What a wait means keeps its phase from turning Green in the next tick.
use Rattle.std.proofs.Common.{◌≡◌, ℕ, Bool, true, false, not, ◌&&◌, if◌then◌else◌, Option, Some, None, is_some, is_none, refl, sym, subst, ap, ◌∙◌, inl, inr, ◌⊎◌}
use Rattle.std.proofs.lemmas.Bool.{cases_Bool, and_parts, or_cases, eq-eqb, true≢false, false≢true}
use Rattle.std.proofs.lemmas.Option.{cond_some}
use Rattle.tsb_types.specs.declared.row.Row.{Row}
use Rattle.tsb_types.specs.declared.stage.Stage.{Stage}
use Rattle.tsb_types.specs.Clip.{clipped}
use Rattle.tsb_types.specs.Intervals.{is_green}
use Rattle.tsb_types.specs.Lists.{is}
use Rattle.tsb_objects.specs.tsb_plan.Plan.{Plan, is_concurrent, is_enabled}
use Rattle.tsb_calls.specs.Callable.{is_callable, is_callable_otherwise, is_free, is_called, is_softly_recalled}
use Rattle.tsb_preempt.specs.Promises.{stage_of}
use Rattle.tsb_preempt.specs.Preempts.{wanted_by}
use Rattle.tsb_preempt.specs.Service.{Service, stage_phases}
use Rattle.tsb_ring.specs.declared.want.Want.TheVariants.{Go}
use Rattle.tsb_ring.specs.Rings as rings
use Rattle.tsb_ring.specs.Rings.{Ring, Ring1, Ring2, other, own_ring, serving}
use Rattle.tsb_ring.specs.Wants.{fits, is_on_side, is_targeted, want_found, is_idle_or_green, want, picked_before, want_of, pick}
use Rattle.tsb_ring.specs.Next.{is_none_or_over, makes_way, may_start, completes, start_now, starting}
use Rattle.tsb_ring.specs.Laws.{IsSound}
use Rattle.tsb_ring.specs.Moves as ring_moves
use Rattle.tsb_ring.specs.Moves.{is_started}
use Rattle.tsb_ring.proofs.ClaimLemmas.{ring_of_is}
use Rattle.tsb_ring.proofs.MoveLemmas.{and_three, is-Some, one_of, completes_may, starts_reverted}
use Rattle.tsb_ring.proofs.StartLemmas.{may_clear, starting_is}
use Rattle.tsb_ring.proofs.WaitLemmas.{idle_is, called_candidate, targeted_candidate}
use Rattle.tsb_ring.proofs.WantLemmas.{and_four, pick_want, pick_free, fitting}
use Rattle.tsb_step.specs.declared.inputs.Input.TheVariants.{Tick}
use Rattle.tsb_step.specs.declared.waits.Lack.{Lack}
use Rattle.tsb_step.specs.declared.waits.Wait.TheVariants as waits
use Rattle.tsb_step.specs.Good.{IsGood}
use Rattle.tsb_step.specs.Signs.{stage}
use Rattle.tsb_step.specs.State.{State, interval}
use Rattle.tsb_step.specs.Step.{step}
use Rattle.tsb_step.specs.Tick.{new_service, target, callable, calls_given, set, rings_given, moves, omitted}
use Rattle.tsb_step.specs.Waits.{served, is_over_next, is_reverted_next, is_committed}
use Rattle.tsb_step.specs.WaitLaws.{IsOutside, IsClearing, IsInTheWay, StartsBeside, IsLacking, IsConflict, IsKeptNext}
use Rattle.tsb_step.proofs.HolderLemmas.{over-as-told}
use Rattle.tsb_step.proofs.ClipLemmas.{clipped_holds, clipped_is_phase}
use Rattle.tsb_step.proofs.EndLemmas.{ends_in_time}
use Rattle.tsb_step.proofs.GivenLemmas.{symmetric, given}
use Rattle.tsb_step.proofs.TellLemmas.{is_in_green}

-- ## How a phase starts

-- the phase that a ring has in service, as the rings are given it
pub served-is : (s : State) (row : Row) (r : Ring) → serving s.plan (rings_given s row) r ≡ served s r
unfolding served serving rings_given
served-is s row r = refl

-- its ring was committed to it, was idle or over, and the other ring made way; or its ring was idle and wanted it
pub data Starts (s : State) (row : Row) (p : ℕ) : Type 0 where
  by_commitment : s.rings.commitment (own_ring s.plan p) ≡ Some p → may_start s.plan (rings_given s row) (own_ring s.plan p) (Some p) ≡ true →
      (is_some s.rings.crossing ≡ true → completes s.plan s.rings (rings_given s row) ≡ true) → Starts s row p
  by_want : s.rings.crossing ≡ None → s.rings.commitment (own_ring s.plan p) ≡ None → served s (own_ring s.plan p) ≡ None →
      want_found s.plan s.rings (rings_given s row) (own_ring s.plan p) (picked_before s.plan s.rings (rings_given s row) (own_ring s.plan p))
      (target s row) ≡ Go p → Starts s row p

may_be_started : (plan : Plan) (s : rings.State) (g : rings.Given) (r : Ring) (c p : ℕ) → s.commitment r ≡ Some c →
    start_now plan s g r (Some c) ≡ Some p → (may_start plan g r (Some c) ≡ true) × (c ≡ p)
may_be_started plan s g r c p e h =
    let k = cond_some (if is_some s.crossing then completes plan s g else may_start plan g r (Some c)) c p h in (
      elim (one_of (is_some s.crossing) (completes plan s g) (may_start plan g r (Some c)) k.0) [
        | inl two ↦ rw e at (completes_may plan s g r two)
        | inr two ↦ two
      ],
      k.1,
    )

wants-it : (s : State) (row : Row) (r : Ring) (p : ℕ) → pick s.plan s.rings (rings_given s row) r ≡ Some p →
    want_found s.plan s.rings (rings_given s row) r (picked_before s.plan s.rings (rings_given s row) r) (target s row) ≡ Go p
unfolding want_of want rings_given
wants-it s row r p h =
    (cond_some (is_none s.rings.crossing && is_none (s.rings.commitment r) && is_idle_or_green (rings_given s row) (serving s.plan (rings_given s row) r))
    (want_found s.plan s.rings (rings_given s row) r (picked_before s.plan s.rings (rings_given s row) r) (target s row)) (Go p)
    (pick_want s.plan s.rings (rings_given s row) r p h)).1

starts-in : (s : State) (row : Row) (r : Ring) (p : ℕ) → IsGood s → own_ring s.plan p ≡ r → starting s.plan s.rings (rings_given s row) r ≡ Some p →
    (is_some s.rings.crossing ≡ true → completes s.plan s.rings (rings_given s row) ≡ true) → Starts s row p
unfolding starting
starts-in s row r p good own h crosses = go (s.rings.commitment r) refl h
  where
    g : rings.Given
    g = rings_given s row

    go : (c : Option ℕ) → s.rings.commitment r ≡ c → start_now s.plan s.rings g r c ≡ Some p → Starts s row p
    go (Some c) e k =
        let started = may_be_started s.plan s.rings g r c p e k in
        let promised : s.rings.commitment r ≡ Some p = e ∙ ap Some started.1 in
        by_commitment (ap s.rings.commitment own ∙ promised)
        (subst (λ x. may_start s.plan g x (Some p) ≡ true) (sym own) (subst (λ x. may_start s.plan g r (Some x) ≡ true) started.1 started.0)) crosses
    go None e k =
        let idle = idle_is (serving s.plan g r) (pick s.plan s.rings g r) p k in
        by_want (pick_free s.plan s.rings g r p idle.1).no_crossing (ap s.rings.commitment own ∙ e)
        (ap (served s) own ∙ sym (served-is s row r) ∙ idle.0)
        (subst (λ x. want_found s.plan s.rings g x (picked_before s.plan s.rings g x) (target s row) ≡ Go p) (sym own) (wants-it s row r p idle.1))

sound-told : (s : State) (row : Row) → IsGood s → IsSound s.plan (rings_given s row).interval s.rings
unfolding rings_given
sound-told s row good = good.rings

pub how-starts : (s : State) (row : Row) (p : ℕ) → IsGood s → is_started (moves s row) p ≡ true → Starts s row p
unfolding moves ring_moves.moves
how-starts s row p good h =
    elim (or_cases (is p (starting s.plan s.rings g Ring1)) (is p (starting s.plan s.rings g Ring2)) h) [
      | inl k ↦ by Ring1 (is-Some p (starting s.plan s.rings g Ring1) k)
      | inr k ↦ by Ring2 (is-Some p (starting s.plan s.rings g Ring2) k)
    ]
  where
    g : rings.Given
    g = rings_given s row

    by : (r : Ring) → starting s.plan s.rings g r ≡ Some p → Starts s row p
    by r k =
        let it = starting_is s.plan s.rings g (λ q. false) (symmetric s.plan good.plan.rules) (sound-told s row good) (given s row good) r p k in
        starts-in s row r p good (ring_of_is s.plan r p it.ringed) k (λ x. (it.in_crossing x).0)

-- ## What a start says of the ring and of the other

-- a phase that a ring wants is on the side that is served and fits; by calls it is callable, by a target one of its own
wanted-parts : (s : State) (row : Row) (p : ℕ) (t : Option (ℕ → Bool)) → (r : Ring) (picked : Option ℕ) →
    want_found s.plan s.rings (rings_given s row) r picked t ≡ Go p →
    (is_on_side s.plan s.rings.side p ≡ true) × (fits s.plan s.rings (rings_given s row) r picked p ≡ true)
wanted-parts s row p None r picked h =
    let all = and_four (rings.in_ring s.plan r p) (is_on_side s.plan s.rings.side p) ((rings_given s row).callable p) (fits s.plan s.rings (rings_given s row) r picked p)
    (called_candidate s.plan s.rings (rings_given s row) r picked p h) in
    (all.1, all.3)
wanted-parts s row p (Some t) r picked h =
    let all = and_four (rings.in_ring s.plan r p) (is_on_side s.plan s.rings.side p) (is_targeted s.plan t p) (fits s.plan s.rings (rings_given s row) r picked p)
    (targeted_candidate s.plan s.rings (rings_given s row) r picked t p h) in
    (all.1, all.3)

-- by calls a phase is callable, so that it is not omitted
not-omitted : (s : State) (row : Row) (p : ℕ) → callable s row p ≡ true → clipped (omitted s) p ≡ false
unfolding is_callable
not-omitted s row p h =
    elim (or_cases (is_callable_otherwise s.plan (calls_given s row) (set s row) p)
    (is_free s.plan (calls_given s row) p && is_softly_recalled s.plan (calls_given s row) (set s row) p) h) [
      | inl k ↦ free (and_parts (is_free s.plan (calls_given s row) p) (is_called s.plan (calls_given s row) (set s row) p) k).0
      | inr k ↦ free (and_parts (is_free s.plan (calls_given s row) p) (is_softly_recalled s.plan (calls_given s row) (set s row) p) k).0
    ]
  where
    free : is_free s.plan (calls_given s row) p ≡ true → clipped (omitted s) p ≡ false
    free k =
        let two = and_parts (is_enabled s.plan p) (not (clipped (omitted s) p) && not (is_green (interval s p))) k in
        let one = (and_parts (not (clipped (omitted s) p)) (not (is_green (interval s p))) two.1).0 in
        off (clipped (omitted s) p) one
      where
        off : (b : Bool) → not b ≡ true → b ≡ false
        off true x = absurd cc
        off false x = refl

called-starts : (s : State) (row : Row) (p : ℕ) (r : Ring) (picked : Option ℕ) →
    want_found s.plan s.rings (rings_given s row) r picked None ≡ Go p → clipped (callable s row) p ≡ true
unfolding rings_given
called-starts s row p r picked h =
    (and_four (rings.in_ring s.plan r p) (is_on_side s.plan s.rings.side p) (clipped (callable s row) p) (fits s.plan s.rings (rings_given s row) r picked p)
    (called_candidate s.plan s.rings (rings_given s row) r picked p h)).2

targeted-starts : (s : State) (row : Row) (p : ℕ) (r : Ring) (picked : Option ℕ) (t : ℕ → Bool) →
    want_found s.plan s.rings (rings_given s row) r picked (Some t) ≡ Go p → t p ≡ true
targeted-starts s row p r picked t h =
    (and_parts (is_enabled s.plan p) (t p)
    (and_four (rings.in_ring s.plan r p) (is_on_side s.plan s.rings.side p) (is_targeted s.plan t p) (fits s.plan s.rings (rings_given s row) r picked p)
    (targeted_candidate s.plan s.rings (rings_given s row) r picked t p h)).2).1

-- ## Each kind

-- a phase that its ring is committed to
committed-to : (s : State) (p : ℕ) → s.rings.commitment (own_ring s.plan p) ≡ Some p → is_committed s p ≡ false → ⊥
committed-to s p e h = true≢false (sym (rw e (eq-eqb p p refl)) ∙ h)

-- the preempt stays in its stage, which does not have it
target-of : (s : State) (row : Row) (n : ℕ) (k : Stage) (p : ℕ) (o : Option Service) → new_service s row ≡ o → stage_of o ≡ Some (n, k) →
    stage_phases s.plan n k p ≡ false → (t : Option (ℕ → Bool)) → wanted_by s.plan o ≡ t → (r : Ring) (picked : Option ℕ) →
    want_found s.plan s.rings (rings_given s row) r picked t ≡ Go p → ⊥
target-of s row n k p None e f out t w r picked h = absurd cc
target-of s row n k p (Some x) e f out None w r picked h = absurd cc
target-of s row n k p (Some x) e f out (Some t) w r picked h =
    let both : (x.preempt, x.stage) ≡ (n, k) = cc in
    let in_it : t p ≡ true = targeted-starts s row p r picked t h in
    let same : stage_phases s.plan x.preempt x.stage ≡ t = cc in
    let at : stage_phases s.plan x.preempt x.stage p ≡ stage_phases s.plan n k p =
    ap (λ (y : ℕ × Stage). stage_phases s.plan y.0 y.1 p) both in
    true≢false (sym in_it ∙ sym (ap (λ (g : ℕ → Bool). g p) same) ∙ at ∙ out)

target-is : (s : State) (row : Row) → target s row ≡ wanted_by s.plan (new_service s row)
unfolding new_service
target-is s row = refl

-- a ring that is idle or over, by the phase that it has in service
over-served : (s : State) (row : Row) (r : Ring) (q : ℕ) → served s r ≡ Some q → is_none_or_over (rings_given s row) (serving s.plan (rings_given s row) r) ≡ true →
    is_over_next s q ≡ true
over-served s row r q e h =
    sym (over-as-told s row q) ∙ subst (λ o. is_none_or_over (rings_given s row) o ≡ true) (served-is s row r ∙ e) h

pub reverted-as-told : (s : State) (row : Row) (p : ℕ) → (rings_given s row).reverted p ≡ is_reverted_next s p
unfolding rings_given
reverted-as-told s row p = refl

as-started : (s : State) (row : Row) (p : ℕ) → is_started (moves s row) p ≡ true → is_reverted_next s p ≡ true
unfolding moves rings_given
as-started s row p h = starts_reverted s.plan s.rings (rings_given s row) p h

-- the phases that do not start: by what each kind of wait means
module _ (s : State) (row : Row) (p : ℕ) (good : IsGood s) (h : is_started (moves s row) p ≡ true) where
  abbrev r : Ring
  r = own_ring s.plan p

  omitted-not : is_committed s p ≡ false → omitted s p ≡ true → target s row ≡ None → ⊥
  omitted-not free out none =
      elim (how-starts s row p good h) [
        | by_commitment a b c ↦ committed-to s p a free
        | by_want a b c d ↦
            (let called : clipped (callable s row) p ≡ true = called-starts s row p r (picked_before s.plan s.rings (rings_given s row) r) (rw none at d) in
            let on : clipped (omitted s) p ≡ true = rw (clipped_is_phase (callable s row) p called, out) refl in
            true≢false (sym on ∙ not-omitted s row p (clipped_holds (callable s row) p called)))
      ]

  preempted-not : (n : ℕ) → is_committed s p ≡ false → IsOutside s n p → stage_of (new_service s row) ≡ stage s → ⊥
  preempted-not n free out stays =
      elim (how-starts s row p good h) [
        | by_commitment a b c ↦ committed-to s p a free
        | by_want a b c d ↦ target-of s row n out.stage p (new_service s row) refl (stays ∙ out.serves) out.outside (target s row)
            (sym (target-is s row)) r (picked_before s.plan s.rings (rings_given s row) r) d
      ]

  reverting-not : is_reverted_next s p ≡ false → ⊥
  reverting-not off = true≢false (sym (as-started s row p h) ∙ off)

  next-not : (c : ℕ) → s.rings.commitment r ≡ Some c → is_committed s p ≡ false → ⊥
  next-not c e free =
      elim (how-starts s row p good h) [
        | by_commitment a b d ↦ committed-to s p a free
        | by_want a b d w ↦ (let bad : None ≡ Some c = sym b ∙ e in absurd cc)
      ]

  clears-not : (q : ℕ) → IsClearing s p q → ⊥
  clears-not q k =
      elim (how-starts s row p good h) [
        | by_commitment a b c ↦
            (let over : is_over_next s q ≡ true = over-served s row r q k.serves (may_clear s.plan s.rings (rings_given s row) r (Some p) b) in
            let bad : true ≡ false = rw (over, a) at k.clears in true≢false bad)
        | by_want a b c d ↦ (let bad : None ≡ Some q = sym c ∙ k.serves in absurd cc)
      ]

  across-not : (q : ℕ) → is_committed s p ≡ true → IsInTheWay s p q → ⊥
  across-not q own k =
      elim (how-starts s row p good h) [
        | by_commitment a b c ↦
            elim (cases_Bool (is_some s.rings.crossing)) [
              | inl e ↦
                  (let over : is_over_next s q ≡ true = over-served s row (other r) q k.serves
                  (may_clear s.plan s.rings (rings_given s row) (other r) (s.rings.commitment (other r))
                  (completes_may s.plan s.rings (rings_given s row) (other r) (c e))) in
                  true≢false (sym over ∙ k.clears))
              | inr e ↦
                  (let apart : is_concurrent s.plan p q ≡ false = apart-of (is_concurrent s.plan p q) (rw e at k.apart) in
                  let way : makes_way s.plan (rings_given s row) p (Some q) ≡ true = way-of (ap-served (other r) q k.serves) b in
                  let over : is_over_next s q ≡ true = sym (over-as-told s row q) ∙ (rw apart at way) in
                  true≢false (sym over ∙ k.clears))
            ]
        | by_want a b c d ↦ (let bad : false ≡ true = rw b at own in false≢true bad)
      ]
    where
      apart-of : (b : Bool) → not b ≡ true → b ≡ false
      apart-of true x = absurd cc
      apart-of false x = refl

      ap-served : (x : Ring) (q : ℕ) → served s x ≡ Some q → serving s.plan (rings_given s row) x ≡ Some q
      ap-served x q e = served-is s row x ∙ e

      way-of : serving s.plan (rings_given s row) (other r) ≡ Some q → may_start s.plan (rings_given s row) r (Some p) ≡ true →
          makes_way s.plan (rings_given s row) p (Some q) ≡ true
      way-of e b =
          let way = (and_three (is_none_or_over (rings_given s row) (serving s.plan (rings_given s row) r)) ((rings_given s row).reverted p)
          (makes_way s.plan (rings_given s row) p (serving s.plan (rings_given s row) (other r))) b).2 in
          subst (λ o. makes_way s.plan (rings_given s row) p o ≡ true) e way

  trails-not : (q : ℕ) → IsClearing s p q ⊎ ((is_committed s p ≡ true) × IsInTheWay s p q) → ⊥
  trails-not q (inl k) = clears-not q k
  trails-not q (inr k) = across-not q k.0 k.1

  beside-not : (x : ℕ) → is_committed s p ≡ true → StartsBeside s p x → ⊥
  beside-not x own k =
      elim (how-starts s row p good h) [
        | by_commitment a b c ↦
            (let may = completes_may s.plan s.rings (rings_given s row) (other r) (c k.crosses) in
            let with_it : may_start s.plan (rings_given s row) (other r) (Some x) ≡ true =
            subst (λ o. may_start s.plan (rings_given s row) (other r) o ≡ true) k.beside may in
            let on = (and_three (is_none_or_over (rings_given s row) (serving s.plan (rings_given s row) (other r))) ((rings_given s row).reverted x)
            (makes_way s.plan (rings_given s row) x (serving s.plan (rings_given s row) (other (other r)))) with_it).1 in
            true≢false (sym on ∙ reverted-as-told s row x ∙ k.reverts))
        | by_want a b c d ↦ (let bad : false ≡ true = rw b at own in false≢true bad)
      ]

  crossing-not : is_committed s p ≡ false → is_some s.rings.crossing ≡ true → ⊥
  crossing-not free on =
      elim (how-starts s row p good h) [
        | by_commitment a b c ↦ committed-to s p a free
        | by_want a b c d ↦ (let bad : false ≡ true = rw a at on in false≢true bad)
      ]

  barrier-not : is_committed s p ≡ false → is_on_side s.plan s.rings.side p ≡ false → ⊥
  barrier-not free off =
      elim (how-starts s row p good h) [
        | by_commitment a b c ↦ committed-to s p a free
        | by_want a b c d ↦
            (let on = (wanted-parts s row p (target s row) r (picked_before s.plan s.rings (rings_given s row) r) d).0 in
            true≢false (sym on ∙ off))
      ]

  green-not : (q : ℕ) (l : Lack) → IsLacking s p q l → ⊥
  green-not q l k =
      elim (how-starts s row p good h) [
        | by_commitment a b c ↦ (let bad : None ≡ Some p = sym k.free ∙ a in absurd cc)
        | by_want a b c d ↦ (let bad : None ≡ Some q = sym c ∙ k.serves in absurd cc)
      ]

  conflict-not : (q : ℕ) → is_committed s p ≡ false → IsConflict s p q → ⊥
  conflict-not q free k =
      elim (how-starts s row p good h) [
        | by_commitment a b c ↦ committed-to s p a free
        | by_want a b c d ↦
            (let picked = picked_before s.plan s.rings (rings_given s row) r in
            let fits_in = fitting s.plan s.rings (rings_given s row) r picked p (wanted-parts s row p (target s row) r picked d).1 in
            elim k.there [
              | inl e ↦ true≢false (sym (fits_in.with_served q (served-is s row (other r) ∙ e)) ∙ k.apart)
              | inr e ↦ true≢false (sym (fits_in.with_promised q e) ∙ k.apart)
            ])
      ]

-- a phase that does not start does not turn Green
not-green : (s : State) (row : Row) (p : ℕ) → IsGood s → is_green (interval s p) ≡ false → (is_started (moves s row) p ≡ true → ⊥) →
    is_green (interval (step s (Tick row)) p) ≡ false
not-green s row p good red never =
    elim (cases_Bool (is_green (interval (step s (Tick row)) p))) [
      | inl e ↦ absurd (never ((ends_in_time s good row p).starts (λ g. true≢false (sym (ap is_green g) ∙ red)) (is_in_green (interval (step s (Tick row)) p) e)))
      | inr e ↦ e
    ]

-- a controller that has tripped leaves its phases
tripped-stays : (s : State) (row : Row) (p : ℕ) → is_some s.trip ≡ true → is_green (interval s p) ≡ false →
    is_green (interval (step s (Tick row)) p) ≡ false
unfolding step
tripped-stays s row p e red = rw e red

pub kept-next : (s : State) → IsGood s → IsKeptNext s
kept-next s good row p waits.Flash red k stays = tripped-stays s row p k red
kept-next s good row p waits.Omitted red k stays = not-green s row p good red (λ h. omitted-not s row p good h k.0 k.1 stays)
kept-next s good row p (waits.Preempted n) red k stays = not-green s row p good red (λ h. preempted-not s row p good h n k.0 k.1 stays)
kept-next s good row p (waits.RedRevert n) red k stays = not-green s row p good red (λ h. reverting-not s row p good h k.0)
kept-next s good row p (waits.Next c) red k stays = not-green s row p good red (λ h. next-not s row p good h c k.0 k.1)
kept-next s good row p (waits.Clears q n) red k stays = not-green s row p good red (λ h. clears-not s row p good h q k.0)
kept-next s good row p (waits.Across q n) red k stays = not-green s row p good red (λ h. across-not s row p good h q k.0 k.1)
kept-next s good row p (waits.Beside c n) red k stays = not-green s row p good red (λ h. beside-not s row p good h c k.0 k.1)
kept-next s good row p waits.Due red k stays = absurd stays
kept-next s good row p (waits.Crossing o) red k stays = not-green s row p good red (λ h. crossing-not s row p good h k.0 k.1)
kept-next s good row p (waits.Barrier o) red k stays = not-green s row p good red (λ h. barrier-not s row p good h k.0 k.1)
kept-next s good row p (waits.Green q l) red k stays = not-green s row p good red (λ h. green-not s row p good h q l k)
kept-next s good row p (waits.Conflict q) red k stays = not-green s row p good red (λ h. conflict-not s row p good h q k.0 k.1)
kept-next s good row p waits.Turn red k stays = absurd stays
kept-next s good row p (waits.Trails q o n) red k stays = not-green s row p good red (λ h. trails-not s row p good h q k.0)
