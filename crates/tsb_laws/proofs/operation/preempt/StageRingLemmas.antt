-- What the rings do in a tick of a stage once all that clears is over, and what is wanted has reverted: commitments
-- start, over phases clear, a crossing begins or is completed, and what is wanted starts. For the laws that preempts
-- reach their stages and dwell.
use Rattle.std.proofs.Common.{◌≡◌, ℕ, Bool, true, false, not, ◌&&◌, Option, Some, None, is_none, refl, sym, ap, ◌∙◌, inl, inr, ◌⊎◌}
use Rattle.std.proofs.lemmas.Bool.{cases_Bool, eqb-true, true≢false, or_right}
use Rattle.tsb_step.specs.tsb_types.Intervals.{is_green, in_service}
use Rattle.tsb_step.specs.tsb_plan.Plan.{Plan, phases, side_of}
use Rattle.tsb_step.specs.tsb_rules.Rules.{first_broken}
use Rattle.tsb_step.specs.tsb_ring.declared.want.Want.TheVariants.{Go, Rest}
use Rattle.tsb_step.specs.tsb_ring.Rings.{Ring, State, Given, in_ring, serving}
use Rattle.tsb_step.specs.tsb_ring.Wants.{is_on_side, is_targeted, is_targeted_elsewhere, want_by_target, picked_before, pick}
use Rattle.tsb_step.specs.tsb_ring.Crossings.{begins, committed}
use Rattle.tsb_step.specs.tsb_ring.Next.{completes, starting, clears, new_commitment}
use Rattle.tsb_step.specs.tsb_ring.Laws.{IsListed, IsPairwiseConcurrent, IsSymmetric, IsGiven, IsSound}
use Rattle.tsb_step.proofs.tsb_ring.EntryLemmas.{begins_apart}
use Rattle.tsb_step.proofs.tsb_ring.StartLemmas.{Stays, is_cleared_in}
use Rattle.tsb_step.proofs.tsb_ring.SoundLemmas.{Commits, enters, stands, makes, commits, new_commits, ring_of_is}
use Rattle.tsb_step.proofs.tsb_ring.WaitLemmas.{is_serving}
use Rattle.tsb_step.proofs.tsb_ring.WantLemmas.{pick_want, pick_free}
use Rattle.tsb_step.specs.TimeLaws.{IsSided}
use Rattle.tsb_laws.specs.CrossingGreens.{IsCalm}
use Rattle.tsb_laws.proofs.safety.RingLemmas.{way_is_made}
use Rattle.tsb_laws.proofs.safety.CrossingRingLemmas.{begins_alone, starts_all, WaitsFor, clearance_of, revert_of, waits_for_one}
use Rattle.tsb_laws.proofs.safety.SideSoughtLemmas.{found_some}
use Rattle.tsb_laws.proofs.operation.preempt.TargetLemmas.{found_is}
use Rattle.tsb_laws.proofs.operation.preempt.PressLemmas.{Bars, committed_to, green_of, serving_is, not_wanted_here, wants_to_cross, barred}
use Rattle.tsb_laws.proofs.operation.preempt.WantedStartLemmas.{Blocks, serves_one, commits_one, wanted_alone, enters_it, starts_or_waits}

-- outside a crossing a commitment that does not start waits for its ring's clearance or for its red revert
pub outside_waits : (plan : Plan) (s : State) (given : Given) (r : Ring) (c : ℕ) → IsSound plan given.interval s → s.crossing ≡ None →
    s.commitment r ≡ Some c → starting plan s given r ≡ None →
    ((p : ℕ) × (serving plan given r ≡ Some p) × (given.over p ≡ false)) ⊎ (given.reverted c ≡ false)
unfolding starting
outside_waits plan s given r c sound out e none = go (serving plan given r) (given.reverted c) refl refl
  where
    over : (p : ℕ) → serving plan given r ≡ Some p → given.reverted c ≡ true → (b : Bool) → given.over p ≡ b →
        ((p : ℕ) × (serving plan given r ≡ Some p) × (given.over p ≡ false)) ⊎ (given.reverted c ≡ false)
    over p k l false m = inl (p, k, m)
    over p k l true m =
        let bad : Some c ≡ None = rw (e, out, k, m, l, way_is_made plan s given r c sound out e) at none in absurd cc

    go : (o : Option ℕ) (b : Bool) → serving plan given r ≡ o → given.reverted c ≡ b →
        ((p : ℕ) × (serving plan given r ≡ Some p) × (given.over p ≡ false)) ⊎ (given.reverted c ≡ false)
    go o false k l = inr l
    go None true k l = let bad : Some c ≡ None = rw (e, out, k, l, way_is_made plan s given r c sound out e) at none in absurd cc
    go (Some p) true k l = over p k l (given.over p) refl

-- what clears is over, and what is wanted or committed to has reverted
pub record AreDue (plan : Plan) (s : State) (given : Given) (target : ℕ → Bool) : Type 0 where
  pub wanted : given.target ≡ Some target
  pub greens : (p : ℕ) → is_green (given.interval p) ≡ true → is_targeted plan target p ≡ true
  pub over : (p : ℕ) → in_service (given.interval p) ≡ true → is_green (given.interval p) ≡ false → given.over p ≡ true
  pub bound : (r : Ring) (c : ℕ) → s.commitment r ≡ Some c → given.reverted c ≡ true
  pub reverted : (p : ℕ) → IsListed plan p → is_targeted plan target p ≡ true → in_service (given.interval p) ≡ false → given.reverted p ≡ true

module _ (plan : Plan) (s : State) (given : Given) (yellow_done : ℕ → Bool) (symmetric : IsSymmetric plan) (sound : IsSound plan given.interval s) (ok : IsGiven plan given) (calm : IsCalm plan given.interval s) (target : ℕ → Bool) (due : AreDue plan s given target) where
  -- a crossing that is under way is completed
  pub completes_it : (d : ℕ) → s.crossing ≡ Some d → completes plan s given ≡ true
  completes_it d way =
      elim (cases_Bool (completes plan s given)) [
        | inl h ↦ h
        | inr h ↦ absurd (go (waits_for_one plan s given yellow_done symmetric sound ok d way h))
      ]
    where
      go : WaitsFor plan s given yellow_done symmetric sound ok d way → ⊥
      go (clearance_of p h k) = true≢false (sym (due.over p h (calm.crosses d way p)) ∙ k)
      go (revert_of r c e k) = true≢false (sym (due.bound r c e) ∙ k)

  -- and after it no ring is committed
  pub free_across : (d : ℕ) → s.crossing ≡ Some d → (r : Ring) → new_commitment plan s given r ≡ None
  free_across d way r = go (new_commitment plan s given r) refl
    where
      by : (c : ℕ) → starting plan s given r ≡ None → Commits plan s given yellow_done symmetric sound ok r c → ⊥
      by c none (enters b e) =
          let out : s.crossing ≡ None = begins_apart plan s given yellow_done symmetric sound ok b in let bad : None ≡ Some d = sym out ∙ way in cc
      by c none (stands b e) =
          let now : starting plan s given r ≡ Some c = starts_all plan s given yellow_done symmetric sound ok d way r c (completes_it d way) e in
          let bad : None ≡ Some c = sym none ∙ now in cc
      by c none (makes b e) =
          let out : s.crossing ≡ None = (pick_free plan s given r c e).no_crossing in let bad : None ≡ Some d = sym out ∙ way in cc

      go : (o : Option ℕ) → new_commitment plan s given r ≡ o → o ≡ None
      go None h = refl
      go (Some c) h =
          let both = new_commits plan s given yellow_done symmetric sound ok r c h in
          absurd (by c both.0 (commits plan s given yellow_done symmetric sound ok r c both.1))

  -- a ring that serves a wanted green picks nothing
  picks_none : (r : Ring) (q c : ℕ) → serving plan given r ≡ Some q → is_green (given.interval q) ≡ true → pick plan s given r ≡ Some c → ⊥
  picks_none r q c serves green h =
      let goes : want_by_target plan s given r (picked_before plan s given r) target ≡ Go c =
      found_is plan s given target due.wanted r (Go c) (pick_want plan s given r c h) in
      let rests : want_by_target plan s given r (picked_before plan s given r) target ≡ Rest = rw (serves, due.greens q green) refl in
      let bad : Rest ≡ Go c = sym rests ∙ goes in absurd cc

  -- ## Outside a crossing, where none begins

  -- no ring is committed after the tick
  pub free_here : s.crossing ≡ None → begins plan s given ≡ false → (r : Ring) → new_commitment plan s given r ≡ None
  unfolding starting
  free_here out h r = go (new_commitment plan s given r) refl
    where
      waits : (c : ℕ) → s.commitment r ≡ Some c →
          ((p : ℕ) × (serving plan given r ≡ Some p) × (given.over p ≡ false)) ⊎ (given.reverted c ≡ false) → ⊥
      waits c e (inr k) = true≢false (sym (due.bound r c e) ∙ k)
      waits c e (inl k) =
          let at_it = serving_is plan given r k.0 k.1 in true≢false (sym (due.over k.0 at_it.1 (calm.bound r c k.0 e at_it.0)) ∙ k.2)

      made : (c : ℕ) → starting plan s given r ≡ None → pick plan s given r ≡ Some c → (o : Option ℕ) → serving plan given r ≡ o → ⊥
      made c none e None k =
          let none_bound : s.commitment r ≡ None = (pick_free plan s given r c e).no_commitment in
          let bad : Some c ≡ None = rw (none_bound, k, e) at none in cc
      made c none e (Some q) k =
          picks_none r q c k (rw k at ((pick_free plan s given r c e).idle_or_green)) e

      by : (c : ℕ) → starting plan s given r ≡ None → Commits plan s given yellow_done symmetric sound ok r c → ⊥
      by c none (enters b e) = true≢false (sym b ∙ h)
      by c none (stands b e) = waits c e (outside_waits plan s given r c sound out e none)
      by c none (makes b e) = made c none e (serving plan given r) refl

      go : (o : Option ℕ) → new_commitment plan s given r ≡ o → o ≡ None
      go None k = refl
      go (Some c) k =
          let both = new_commits plan s given yellow_done symmetric sound ok r c k in
          absurd (by c both.0 (commits plan s given yellow_done symmetric sound ok r c both.1))

  -- and what stays in service is Green
  pub stays_if_green : s.crossing ≡ None → begins plan s given ≡ false → (p : ℕ) → Stays plan s given yellow_done symmetric sound ok p →
      is_green (given.interval p) ≡ true
  unfolding clears new_commitment
  stays_if_green out h p stays =
      elim (cases_Bool (is_green (given.interval p))) [
        | inl k ↦ k
        | inr k ↦ absurd (gone k (starting plan s given r) refl)
      ]
    where
      r : Ring
      r = (sound.ringed p stays.was).0

      own : in_ring plan r p ≡ true
      own = (sound.ringed p stays.was).1

      serves : serving plan given r ≡ Some p
      serves = is_serving plan s given r p sound own stays.was

      gone : is_green (given.interval p) ≡ false → (o : Option ℕ) → starting plan s given r ≡ o → ⊥
      gone k None e =
          let none : committed plan s given r ≡ None = rw e at (free_here out h r) in
          let done : clears plan s given p ≡ true = rw (ring_of_is plan r p own, due.over p stays.was k, none) refl in
          true≢false (sym (is_cleared_in plan s given yellow_done symmetric sound ok r p serves done) ∙ stays.kept)
      gone k (Some c) e =
          let done : clears plan s given p ≡ true =
          rw (ring_of_is plan r p own, due.over p stays.was k, e) (or_right (is_none (committed plan s given r)) true refl) in
          true≢false (sym (is_cleared_in plan s given yellow_done symmetric sound ok r p serves done) ∙ stays.kept)

  -- ## Where no ring is committed, and only greens are in service

  pub starts_wanted : first_broken plan ≡ None → IsPairwiseConcurrent plan (Some target) → IsSided plan given.interval s → s.crossing ≡ None →
      ((r : Ring) → s.commitment r ≡ None) → ((p : ℕ) → in_service (given.interval p) ≡ true → is_green (given.interval p) ≡ true) →
      begins plan s given ≡ false → (r : Ring) (p : ℕ) → in_ring plan r p ≡ true → IsListed plan p → is_targeted plan target p ≡ true →
      (is_green (given.interval p) ≡ true) ⊎ (starting plan s given r ≡ Some p)
  starts_wanted rules pairs sided out free lit h r p own listed wanted = go (serving plan given r) refl
    where
      unserved : is_targeted_elsewhere plan s target ≡ true → (y : Ring) (q : ℕ) → serving plan given y ≡ Some q → is_targeted plan target q ≡ false
      unserved away y q e =
          let at_it = serving_is plan given y q e in
          not_wanted_here plan s given target due.wanted rules pairs q away (sound.listed q at_it.1) (sided.serves q at_it.1)

      bars : is_targeted_elsewhere plan s target ≡ true → Bars s plan given → ⊥
      bars away (committed_to y c e) = let bad : None ≡ Some c = sym (free y) ∙ e in absurd cc
      bars away (green_of y q e green unready) = true≢false (sym (due.greens q green) ∙ unserved away y q e)

      on_side : is_targeted_elsewhere plan s target ≡ false → (b : Bool) → is_on_side plan s.side p ≡ b → side_of plan p ≡ s.side
      on_side here true e = eqb-true (side_of plan p) s.side e
      on_side here false e =
          absurd (true≢false (sym (found_some (λ q. is_targeted plan target q && not (is_on_side plan s.side q)) (phases plan) p listed (rw (wanted, e) refl)) ∙ here))

      dark : serving plan given r ≡ None → in_service (given.interval p) ≡ false
      dark k =
          elim (cases_Bool (in_service (given.interval p))) [
            | inr l ↦ l
            | inl l ↦ (let bad : None ≡ Some p = sym k ∙ is_serving plan s given r p sound own l in absurd cc)
          ]

      blocked : serving plan given r ≡ None → Blocks s plan given p → ⊥
      blocked k (commits_one y c e) = let bad : None ≡ Some c = sym (free y) ∙ e in absurd cc
      blocked k (serves_one y q e apart) =
          let at_it = serving_is plan given y q e in
          elim (pairs p q listed (sound.listed q at_it.1) wanted (due.greens q (lit q at_it.1))) [
            | inl same ↦ true≢false (sym at_it.1 ∙ ap (λ (z : ℕ). in_service (given.interval z)) (sym same) ∙ dark k)
            | inr both ↦ true≢false (sym both ∙ apart)
          ]

      idle : serving plan given r ≡ None → (b : Bool) → is_targeted_elsewhere plan s target ≡ b →
          (is_green (given.interval p) ≡ true) ⊎ (starting plan s given r ≡ Some p)
      idle k true away =
          absurd (bars away (barred plan s given target due.wanted rules pairs r
          (wants_to_cross plan s given target due.wanted rules pairs r out (free r) (rw k refl) (rw k refl) away) out away (unserved away) h))
      idle k false here =
          elim (starts_or_waits plan s given target due.wanted rules pairs r p own listed wanted (on_side here (is_on_side plan s.side p) refl) out (free r) k
          (due.reverted p listed wanted (dark k))) [
            | inl e ↦ inr e
            | inr e ↦ absurd (blocked k e)
          ]

      go : (o : Option ℕ) → serving plan given r ≡ o → (is_green (given.interval p) ≡ true) ⊎ (starting plan s given r ≡ Some p)
      go None k = idle k (is_targeted_elsewhere plan s target) refl
      go (Some q) k =
          let at_it = serving_is plan given r q k in
          let green : is_green (given.interval q) ≡ true = lit q at_it.1 in
          let same : q ≡ p = wanted_alone plan s given target due.wanted rules pairs r q p at_it.0 own (sound.listed q at_it.1) listed (due.greens q green) wanted in
          inl (ap (λ (z : ℕ). is_green (given.interval z)) (sym same) ∙ green)

  -- ## As a crossing begins

  pub commits_wanted : first_broken plan ≡ None → IsPairwiseConcurrent plan (Some target) → begins plan s given ≡ true → (r : Ring) (p : ℕ) →
      in_ring plan r p ≡ true → IsListed plan p → is_targeted plan target p ≡ true → new_commitment plan s given r ≡ Some p
  unfolding new_commitment committed
  commits_wanted rules pairs h r p own listed wanted =
      rw (begins_alone plan s given r h, h) (enters_it plan s given target due.wanted rules pairs r p own listed wanted)
