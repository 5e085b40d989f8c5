-- What one tick makes of a green that a preempt does not want: once it is ready it ends, or waits for a crossing; and
-- what keeps the crossing from beginning. For `unwanted_greens_end`.
use Rattle.std.proofs.Common.{◌≡◌, ℕ, Bool, true, false, not, ◌&&◌, ◌||◌, if◌then◌else◌, Option, Some, None, is_none, refl, sym, ap, ◌∙◌, inl, inr, ◌⊎◌}
use Rattle.std.proofs.lemmas.Bool.{and_parts, eq-eqb, eqb-true, true≢false, false≢true, false_from_ne_true, or_right}
use Rattle.tsb_step.specs.tsb_types.declared.interval.Interval.{Interval}
use Rattle.tsb_step.specs.tsb_types.declared.interval.Interval.TheVariants.{Red, Green, Yellow, RedClear}
use Rattle.tsb_step.specs.tsb_types.Intervals.{is_green, in_service}
use Rattle.tsb_step.specs.tsb_types.Lists.{first, is}
use Rattle.tsb_step.specs.tsb_plan.Plan.{Plan, phases, side_of}
use Rattle.tsb_step.specs.tsb_rules.Rules.{first_broken}
use Rattle.tsb_step.proofs.tsb_rules.ConsistentLemmas.{together}
use Rattle.tsb_step.specs.tsb_ring.declared.want.Want.{Want}
use Rattle.tsb_step.specs.tsb_ring.declared.want.Want.TheVariants.{Go, Cross, Rest, Stop}
use Rattle.tsb_step.specs.tsb_ring.Rings.{Ring, Ring1, Ring2, State, Given, in_ring, own_ring, serving}
use Rattle.tsb_step.specs.tsb_ring.Wants.{go_or, fits, is_on_side, is_targeted, serves_target, targeted_here, is_targeted_elsewhere, want_by_target, want_found, is_idle_or_green, want, picked_before, want_of}
use Rattle.tsb_step.specs.tsb_ring.Crossings.{wants_cross, ring_joins, begins}
use Rattle.tsb_step.specs.tsb_ring.Next.{leaves, ends}
use Rattle.tsb_step.specs.tsb_ring.Moves.{if_passes, ring_moves, moves, is_ended}
use Rattle.tsb_step.specs.tsb_ring.Laws.{IsListed, IsPairwiseConcurrent}
use Rattle.tsb_step.proofs.tsb_ring.ClaimLemmas.{ring_of_is}
use Rattle.tsb_step.proofs.tsb_ring.WaitLemmas.{first-passes}
use Rattle.tsb_step.proofs.tsb_ring.WantLemmas.{and_four, first-among}
use Rattle.tsb_step.proofs.GivenLemmas.{listed_is_phase}
use Rattle.tsb_laws.proofs.safety.SideSoughtLemmas.{Found, some_found}

-- why a crossing does not begin that some ring wants: a ring is committed, or serves a green that is not ready
pub data Bars (s : State) (plan : Plan) (given : Given) : Type 0 where
  committed_to : (r : Ring) (c : ℕ) → s.commitment r ≡ Some c → Bars s plan given
  green_of : (r : Ring) (q : ℕ) → serving plan given r ≡ Some q → is_green (given.interval q) ≡ true → given.ready q ≡ false → Bars s plan given

-- what a ring serves is of the ring, and in service
pub serving_is : (plan : Plan) (given : Given) (r : Ring) (q : ℕ) → serving plan given r ≡ Some q →
    (in_ring plan r q ≡ true) × (in_service (given.interval q) ≡ true)
unfolding serving
serving_is plan given r q e =
    and_parts (in_ring plan r q) (in_service (given.interval q)) (first-passes (λ p. in_ring plan r p && in_service (given.interval p)) (phases plan) q e)

module _ (plan : Plan) (s : State) (given : Given) (target : ℕ → Bool) (wanted : given.target ≡ Some target) (rules : first_broken plan ≡ None) (pairs : IsPairwiseConcurrent plan (Some target)) where
  pub want_is : (r : Ring) → s.crossing ≡ None → s.commitment r ≡ None → is_idle_or_green given (serving plan given r) ≡ true →
      want_of plan s given r ≡ Some (want_by_target plan s given r (picked_before plan s given r) target)
  unfolding want_of want
  want_is r out none idle =
      ap (λ (b : Bool). if b then Some (want_found plan s given r (picked_before plan s given r) given.target) else None) free
      ∙ ap (λ (t : Option (ℕ → Bool)). Some (want_found plan s given r (picked_before plan s given r) t)) wanted
    where
      free : (is_none s.crossing && is_none (s.commitment r) && is_idle_or_green given (serving plan given r)) ≡ true
      free = rw (out, none, idle) refl

  -- two phases that are wanted are on one side
  pub wanted_beside : (p q : ℕ) → IsListed plan p → IsListed plan q → is_targeted plan target p ≡ true → is_targeted plan target q ≡ true →
      side_of plan p ≡ side_of plan q
  wanted_beside p q listed_p listed_q h k =
      elim (pairs p q listed_p listed_q h k) [
        | inl same ↦ ap (λ (x : ℕ). side_of plan x) same
        | inr both ↦ (together plan rules p q (listed_is_phase plan p listed_p) (listed_is_phase plan q listed_q) both).sides
      ]

  -- ## A green that is not wanted

  ends_by_want : (r : Ring) (p : ℕ) (w : Want) → serving plan given r ≡ Some p → in_ring plan r p ≡ true → is_green (given.interval p) ≡ true →
      given.ready p ≡ true → want_of plan s given r ≡ Some w → leaves (Some w) ≡ true → is_ended (moves plan s given) p ≡ true
  unfolding moves ends
  ends_by_want r p w serves own green ready h k = by r serves passes
    where
      passes : is p (if_passes (λ q. is_green (given.interval q) && (begins plan s given || (given.ready q && leaves (want_of plan s given (own_ring plan q))))) (Some p)) ≡ true
      passes = rw (green, ready, ring_of_is plan r p own, h, k) (rw (or_right (begins plan s given) true refl) (eq-eqb p p refl))

      by : (x : Ring) → serving plan given x ≡ Some p →
          is p (if_passes (λ q. is_green (given.interval q) && (begins plan s given || (given.ready q && leaves (want_of plan s given (own_ring plan q))))) (Some p)) ≡ true →
          is_ended (moves plan s given) p ≡ true
      by Ring1 e l = rw (e, l) refl
      by Ring2 e l = or_right (is p (ring_moves plan s given Ring1).ends) _ (rw e l)

  -- it ends, or its ring wants to cross the barrier, and the target is elsewhere
  pub leaves_or_crosses : (r : Ring) (p : ℕ) → serving plan given r ≡ Some p → in_ring plan r p ≡ true → is_green (given.interval p) ≡ true →
      given.ready p ≡ true → s.crossing ≡ None → s.commitment r ≡ None → is_targeted plan target p ≡ false →
      (is_ended (moves plan s given) p ≡ true) ⊎ ((want_of plan s given r ≡ Some Cross) × (is_targeted_elsewhere plan s target ≡ true))
  leaves_or_crosses r p serves own green ready out none apart =
      go (targeted_here plan s given r (picked_before plan s given r) target) (is_targeted_elsewhere plan s target) refl refl
    where
      idle : is_idle_or_green given (serving plan given r) ≡ true
      idle = rw serves green

      not_served : serves_target plan target (serving plan given r) ≡ false
      not_served = rw serves apart

      found : (o : Option ℕ) (b : Bool) → targeted_here plan s given r (picked_before plan s given r) target ≡ o → is_targeted_elsewhere plan s target ≡ b →
          want_of plan s given r ≡ Some (go_or o (if b then Cross else Stop))
      found o b k l =
          want_is r out none idle
          ∙ ap (λ (x : Bool). Some (if x then Rest else go_or (targeted_here plan s given r (picked_before plan s given r) target)
          (if is_targeted_elsewhere plan s target then Cross else Stop))) not_served
          ∙ ap (λ (x : Option ℕ). Some (go_or x (if is_targeted_elsewhere plan s target then Cross else Stop))) k
          ∙ ap (λ (x : Bool). Some (go_or o (if x then Cross else Stop))) l

      go : (o : Option ℕ) (b : Bool) → targeted_here plan s given r (picked_before plan s given r) target ≡ o → is_targeted_elsewhere plan s target ≡ b →
          (is_ended (moves plan s given) p ≡ true) ⊎ ((want_of plan s given r ≡ Some Cross) × (is_targeted_elsewhere plan s target ≡ true))
      go (Some q) b k l = inl (ends_by_want r p (Go q) serves own green ready (found (Some q) b k l) refl)
      go None true k l = inr (found None true k l, l)
      go None false k l = inl (ends_by_want r p Stop serves own green ready (found None false k l) refl)

  -- ## Across the barrier

  -- a phase that is on the side that is served is not wanted, where the target is elsewhere
  pub not_wanted_here : (p : ℕ) → is_targeted_elsewhere plan s target ≡ true → IsListed plan p → side_of plan p ≡ s.side → is_targeted plan target p ≡ false
  not_wanted_here p away listed here =
      false_from_ne_true _ (λ h. (let q : Found (λ x. is_targeted plan target x && not (is_on_side plan s.side x)) (phases plan) =
      some_found (λ x. is_targeted plan target x && not (is_on_side plan s.side x)) (phases plan) away in
      let both = and_parts (is_targeted plan target q.one) (not (is_on_side plan s.side q.one)) q.passes in
      let side : side_of plan q.one ≡ s.side = wanted_beside q.one p q.listed listed both.0 h ∙ here in
      let on : is_on_side plan s.side q.one ≡ true = eq-eqb (side_of plan q.one) s.side side in
      false≢true (rw on at both.1)))

  -- then no ring finds a phase to go to
  none_here : (r : Ring) → is_targeted_elsewhere plan s target ≡ true → targeted_here plan s given r (picked_before plan s given r) target ≡ None
  none_here r away = go (targeted_here plan s given r (picked_before plan s given r) target) refl
    where
      test : ℕ → Bool
      test = λ p. in_ring plan r p && is_on_side plan s.side p && is_targeted plan target p && fits plan s given r (picked_before plan s given r) p

      go : (o : Option ℕ) → first test (phases plan) ≡ o → targeted_here plan s given r (picked_before plan s given r) target ≡ None
      go None e = e
      go (Some p) e =
          let all = and_four (in_ring plan r p) (is_on_side plan s.side p) (is_targeted plan target p) (fits plan s given r (picked_before plan s given r) p)
          (first-passes test (phases plan) p e) in
          absurd (true≢false (sym all.2 ∙ not_wanted_here p away (first-among test (phases plan) p e) (eqb-true (side_of plan p) s.side all.1)))

  -- a ring that is free and serves no phase of the target wants to cross
  pub wants_to_cross : (r : Ring) → s.crossing ≡ None → s.commitment r ≡ None → is_idle_or_green given (serving plan given r) ≡ true →
      serves_target plan target (serving plan given r) ≡ false → is_targeted_elsewhere plan s target ≡ true → want_of plan s given r ≡ Some Cross
  wants_to_cross r out none idle apart away =
      want_is r out none idle
      ∙ ap (λ (x : Bool). Some (if x then Rest else go_or (targeted_here plan s given r (picked_before plan s given r) target)
      (if is_targeted_elsewhere plan s target then Cross else Stop))) apart
      ∙ ap (λ (x : Option ℕ). Some (go_or x (if is_targeted_elsewhere plan s target then Cross else Stop))) (none_here r away)
      ∙ ap (λ (x : Bool). Some (if x then Cross else Stop)) away

  -- a ring joins in the crossing, or bars it
  joins_or_bars : (r : Ring) → s.crossing ≡ None → is_targeted_elsewhere plan s target ≡ true → ((q : ℕ) → serving plan given r ≡ Some q → is_targeted plan target q ≡ false) →
      (ring_joins plan s given r ≡ true) ⊎ Bars s plan given
  joins_or_bars r out away unserved = go (s.commitment r) (serving plan given r) refl refl
    where
      crosses : (o : Option ℕ) → serving plan given r ≡ o → s.commitment r ≡ None → is_idle_or_green given o ≡ true → serves_target plan target o ≡ false →
          want_of plan s given r ≡ Some Cross
      crosses o e none idle apart = wants_to_cross r out none (rw e idle) (rw e apart) away

      green : (q : ℕ) → s.commitment r ≡ None → serving plan given r ≡ Some q → given.interval q ≡ Green → (b : Bool) → given.ready q ≡ b → (ring_joins plan s given r ≡ true) ⊎ Bars s plan given
      green q none e f true l =
          let w : want_of plan s given r ≡ Some Cross = crosses (Some q) e none (rw f refl) (unserved q e) in inl (rw (none, e, f, l, w) refl)
      green q none e f false l = inr (green_of r q e (rw f refl) l)

      by : (q : ℕ) → s.commitment r ≡ None → serving plan given r ≡ Some q → (i : Interval) → given.interval q ≡ i → in_service i ≡ true → (ring_joins plan s given r ≡ true) ⊎ Bars s plan given
      by q none e Red f serves = absurd (false≢true serves)
      by q none e Green f serves = green q none e f (given.ready q) refl
      by q none e Yellow f serves = inl (rw (none, e, f) refl)
      by q none e RedClear f serves = inl (rw (none, e, f) refl)

      is_served : (q : ℕ) → serving plan given r ≡ Some q → in_service (given.interval q) ≡ true
      is_served q e = (serving_is plan given r q e).1

      go : (c o : Option ℕ) → s.commitment r ≡ c → serving plan given r ≡ o → (ring_joins plan s given r ≡ true) ⊎ Bars s plan given
      go (Some c) o k e = inr (committed_to r c k)
      go None None k e = let w : want_of plan s given r ≡ Some Cross = crosses None e k refl refl in inl (rw (k, e, w) refl)
      go None (Some q) k e = by q k e (given.interval q) refl (is_served q e)

  -- a crossing that a ring wants begins, or is barred
  pub barred : (r : Ring) → want_of plan s given r ≡ Some Cross → s.crossing ≡ None → is_targeted_elsewhere plan s target ≡ true →
      ((x : Ring) (q : ℕ) → serving plan given x ≡ Some q → is_targeted plan target q ≡ false) → begins plan s given ≡ false → Bars s plan given
  unfolding begins
  barred r w out away unserved h =
      elim (joins_or_bars Ring1 out away (unserved Ring1)) [
        | inr k ↦ k
        | inl one ↦ elim (joins_or_bars Ring2 out away (unserved Ring2)) [
          | inr k ↦ k
          | inl two ↦ (let all : (ring_joins plan s given Ring1 && ring_joins plan s given Ring2 && (wants_cross (want_of plan s given Ring1) || wants_cross (want_of plan s given Ring2))) ≡ true =
              rw (one, two) (crosses r w) in absurd (true≢false (sym all ∙ h)))
        ]
      ]
    where
      crosses : (x : Ring) → want_of plan s given x ≡ Some Cross → (wants_cross (want_of plan s given Ring1) || wants_cross (want_of plan s given Ring2)) ≡ true
      crosses Ring1 e = rw e refl
      crosses Ring2 e = rw e (or_right (wants_cross (want_of plan s given Ring1)) true refl)
