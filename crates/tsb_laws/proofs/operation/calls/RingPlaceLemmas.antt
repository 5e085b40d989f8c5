-- The place to which a ring has come in its order, and how many ticks more it takes there until it may go on, by
-- whatever bounds a green. For the laws that called phases are served, in free operation and in patterns.
use Rattle.std.proofs.Common.{◌≡◌, ◌≢◌, ℕ, ◌+◌, ◌*◌, ◌≤◌, ◌==◌, Bool, true, false, ◌&&◌, if◌then◌else◌, List, [], ◌∷◌, Option, Some, None, refl, inl, inr, ◌⊎◌, arith}
use Rattle.std.proofs.lemmas.Bool.{cases_Bool, and_parts, eqb-true, false≢true}
use Rattle.tsb_step.specs.tsb_types.declared.interval.Interval.TheVariants.{Green}
use Rattle.tsb_step.specs.tsb_types.Intervals.{is_green, in_service}
use Rattle.tsb_step.specs.tsb_types.Lists.{first, among, after, up_to, later, not_later, or_else}
use Rattle.tsb_step.specs.tsb_plan.Plan.{Plan, phases, yellow_change, red_clear, red_revert}
use Rattle.tsb_step.specs.tsb_rules.SequenceRules.{lists_once}
use Rattle.tsb_step.specs.tsb_coord.declared.correction.Correction.{Correction}
use Rattle.tsb_step.specs.tsb_coord.Correction.{in_step}
use Rattle.tsb_step.specs.tsb_coord.Coordinated.{serving_order}
use Rattle.tsb_step.specs.tsb_phase.Phase.{Phase}
use Rattle.tsb_step.specs.tsb_ring.Rings as rings
use Rattle.tsb_step.specs.tsb_ring.Rings.{Ring, number, in_ring}
use Rattle.tsb_step.specs.tsb_ring.Wants.{is_on_side}
use Rattle.tsb_step.proofs.tsb_ring.WaitLemmas.{first-passes}
use Rattle.tsb_step.proofs.tsb_ring.WantLemmas.{up_to-among}
use Rattle.tsb_step.proofs.TellLemmas.{is_in_green}
use Rattle.tsb_step.proofs.tsb_phase.ReadLemmas.{is-red}
use Rattle.tsb_step.specs.State.{State, interval}
use Rattle.tsb_step.specs.Good.{IsGood}
use Rattle.tsb_laws.specs.CrossingGreens.{IsCalm}
use Rattle.tsb_laws.specs.ServedCalls.{times_on, place}
use Rattle.tsb_laws.proofs.safety.SideSoughtLemmas.{none_first}
use Rattle.tsb_laws.proofs.operation.step.TurnListLemmas.{after_later, first_before}
use Rattle.tsb_laws.proofs.operation.step.PhaseLeftLemmas.{clear_left, back_left, clear_most, back_most, back_all}

-- ## What is seen of a state

-- all that a ring's progress is found from
pub record View : Type 0 where
  pub plan : Plan
  pub rings : rings.State
  pub phases : ℕ → Phase
  pub now : ℕ
  pub pattern : Option ℕ
  pub correction : Correction

-- in free operation it is without what patterns leave: forced latches, the pattern that is selected, and its local counter
abbrev pub view : Bool → State → View
view free s = record {
  plan = s.plan;
  rings = s.rings;
  phases = λ p. record (s.phases p) { forced = if free then false else (s.phases p).forced };
  now = if free then 0 else s.now;
  pattern = if free then None else s.pattern;
  correction = if free then in_step else s.correction;
}

-- the order of a ring by the sequence in effect
abbrev pub order_of : View → Ring → List ℕ
order_of v r = serving_order v.plan v.pattern (number r)

-- ## Sums over an order

module _ (time : ℕ → ℕ) (plan : Plan) (d : ℕ) where
  head_counts : (x y : ℕ) (ys : List ℕ) → is_on_side plan d x ≡ true → y ≡ x →
      time x + times_on time plan d ys ≤ (if is_on_side plan d y then time y else 0) + times_on time plan d ys
  head_counts x y ys on same =
      let mine : (if is_on_side plan d y then time y else 0) ≡ time x = rw same (rw on refl) in omega (arith, mine)

  times_after : (x : ℕ) (ps : List ℕ) → is_on_side plan d x ≡ true → among x ps ≡ true → time x + times_on time plan d (after x ps) ≤ times_on time plan d ps
  times_after x [] on h = absurd (false≢true h)
  times_after x (y ∷ ys) on h =
      elim (cases_Bool (y == x)) [
        | inl e ↦ rw e (head_counts x y ys on (eqb-true y x e))
        | inr e ↦ rw e (let rest = times_after x ys on (rw e at h) in omega (arith, rest))
      ]

  -- what comes later than a phase that has its turn, and that turn
  pub times_later : (last : Option ℕ) (x : ℕ) (ps : List ℕ) → x ≢ 0 → lists_once ps ≡ true → is_on_side plan d x ≡ true →
      among x (later last ps) ≡ true → time x + times_on time plan d (later (Some x) ps) ≤ times_on time plan d (later last ps)
  times_later last x ps some once on h = rw (after_later last x ps some once h) (times_after x (later last ps) on h)

  after_most : (x : ℕ) (ps : List ℕ) → times_on time plan d (after x ps) ≤ times_on time plan d ps
  after_most x [] = omega arith
  after_most x (y ∷ ys) =
      elim (cases_Bool (y == x)) [
        | inl e ↦ rw e (omega arith)
        | inr e ↦ rw e (let rest = after_most x ys in omega (arith, rest))
      ]

  -- it is no more than that of the whole order
  pub later_most : (o : Option ℕ) (ps : List ℕ) → times_on time plan d (later o ps) ≤ times_on time plan d ps
  later_most None ps = omega arith
  later_most (Some x) ps = after_most x ps

-- ## The place of a ring

-- The ring has come to place o of its order, and may go on from there in u ticks, if it has a conflict till then: it is
-- committed to o, and clears for it; it serves a green; or it is idle, and its phases may have to revert.
-- `Lasts v p n` says that the green of p lasts n ticks more at most.
module _ (longest : ℕ → ℕ) (Lasts : View → ℕ → ℕ → Type 0) where
  pub data IsAt (v : View) (r : Ring) (o : Option ℕ) (u : ℕ) : Type 0 where
    bound_to : (c m : ℕ) → v.rings.commitment r ≡ Some c → o ≡ Some c →
        ((p : ℕ) → in_ring v.plan r p ≡ true → clear_left v.plan p (v.phases p) ≤ m) → back_left v.plan c (v.phases c) ≤ m → longest c + m + 1 ≤ u → IsAt v r o u
    in_green : (p n : ℕ) → v.rings.commitment r ≡ None → v.rings.last r ≡ o → in_ring v.plan r p ≡ true → (v.phases p).interval ≡ Green → Lasts v p n → n ≤ u → IsAt v r o u
    at_rest : (m : ℕ) → v.rings.commitment r ≡ None → v.rings.last r ≡ o → ((p : ℕ) → in_ring v.plan r p ≡ true → in_service (v.phases p).interval ≡ false) →
        ((p : ℕ) → in_ring v.plan r p ≡ true → back_left v.plan p (v.phases p) ≤ m) → m ≤ u → IsAt v r o u

  -- or it clears with no commitment, as where a preempt has ended its green
  pub data IsNear (v : View) (r : Ring) (o : Option ℕ) (u : ℕ) : Type 0 where
    settled : IsAt v r o u → IsNear v r o u
    clearing_out : (p m : ℕ) → v.rings.commitment r ≡ None → v.rings.last r ≡ o → in_ring v.plan r p ≡ true → in_service (v.phases p).interval ≡ true →
        is_green (v.phases p).interval ≡ false → ((x : ℕ) → in_ring v.plan r x ≡ true → clear_left v.plan x (v.phases x) + 1 ≤ m) →
        ((x : ℕ) → in_ring v.plan r x ≡ true → back_left v.plan x (v.phases x) ≤ m) → m ≤ u → IsNear v r o u

  -- what may go on in so long may go on in longer
  longer : (v : View) (r : Ring) (o : Option ℕ) (u w : ℕ) → u ≤ w → IsAt v r o u → IsAt v r o w
  longer v r o u w more (bound_to c m e same clears reverts all) = bound_to c m e same clears reverts (omega (arith, more, all))
  longer v r o u w more (in_green p n e same own green lasts all) = in_green p n e same own green lasts (omega (arith, more, all))
  longer v r o u w more (at_rest m e same dark reverts all) = at_rest m e same dark reverts (omega (arith, more, all))

  -- ## As it is at any moment outside a crossing

  module _ (free : Bool) (s : State) (r : Ring) (k h : ℕ) (good : IsGood s) (calm : IsCalm s.plan (interval s) s.rings) (clears : (p : ℕ) → yellow_change s.plan p + red_clear s.plan p ≤ k)
      (reverts : (p : ℕ) → red_revert s.plan p ≤ k) (most : (p : ℕ) → longest p ≤ h) (greens : (p : ℕ) → interval s p ≡ Green → Lasts (view free s) p (longest p))
      (outside : s.rings.crossing ≡ None) where
    -- it is at its place, or clears with no commitment
    pub data Stands (o : Option ℕ) : Type 0 where
      stands_at : IsAt (view free s) r o (h + k + 1) → Stands o
      stands_clearing : (p : ℕ) → s.rings.commitment r ≡ None → in_ring s.plan r p ≡ true → in_service (interval s p) ≡ true → is_green (interval s p) ≡ false →
          IsNear (view free s) r o (h + 2 * k + 1) → Stands o

    clear_now : (p : ℕ) → clear_left s.plan p (s.phases p) ≤ k
    clear_now p = let at_most = clear_most s.plan p (s.phases p) in let limit = clears p in omega (arith, at_most, limit)

    back_now : (p : ℕ) → in_service (interval s p) ≡ false → back_left s.plan p (s.phases p) ≤ k
    back_now p dark = let at_most = back_most s.plan p (s.phases p) (is-red (interval s p) dark) in let limit = reverts p in omega (arith, at_most, limit)

    at_promise : (c : ℕ) → s.rings.commitment r ≡ Some c → Stands (Some c)
    at_promise c e = stands_at (bound_to c k e refl (λ p own. clear_now p) (back_now c (calm.fresh outside r c e)) (let limit = most c in omega (arith, limit)))

    by_interval : (p : ℕ) → s.rings.commitment r ≡ None → in_ring s.plan r p ≡ true → in_service (interval s p) ≡ true → (b : Bool) → is_green (interval s p) ≡ b →
        Stands (s.rings.last r)
    by_interval p e own serves true g =
        let green : interval s p ≡ Green = is_in_green (interval s p) g in
        stands_at (in_green p (longest p) e refl own green (greens p green) (let limit = most p in omega (arith, limit)))
    by_interval p e own serves false g =
        stands_clearing p e own serves g
        (clearing_out p (2 * k + 1) e refl own serves g
        (λ x own_x. (let at_most = clear_now x in omega (arith, at_most)))
        (λ x own_x. (let at_most = back_all s.plan x k (s.phases x) (clears x) (reverts x) in omega (arith, at_most)))
        (omega arith))

    at_last : s.rings.commitment r ≡ None → Stands (s.rings.last r)
    at_last e = go (first test (phases s.plan)) refl
      where
        test : ℕ → Bool
        test = λ p. in_ring s.plan r p && in_service (interval s p)

        go : (o : Option ℕ) → first test (phases s.plan) ≡ o → Stands (s.rings.last r)
        go None f = stands_at (at_rest k e refl none (λ p own. back_now p (none p own)) (omega arith))
          where
            none : (p : ℕ) → in_ring s.plan r p ≡ true → in_service (interval s p) ≡ false
            none p own =
                elim (cases_Bool (in_service (interval s p))) [
                  | inr x ↦ x
                  | inl x ↦ absurd (none_first test (phases s.plan) p (good.rings.listed p x) (rw (own, x) refl) f)
                ]
        go (Some p) f =
            let both = and_parts (in_ring s.plan r p) (in_service (interval s p)) (first-passes test (phases s.plan) p f) in
            by_interval p e both.0 both.1 (is_green (interval s p)) refl

    pub stands_now : Stands (place s r)
    stands_now = go (s.rings.commitment r) refl
      where
        go : (o : Option ℕ) → s.rings.commitment r ≡ o → Stands (or_else o (s.rings.last r))
        go None e = at_last e
        go (Some c) e = at_promise c e

    -- so it may go on from its place in that time
    pub at_its_place : IsNear (view free s) r (place s r) (h + 2 * k + 1)
    at_its_place = go stands_now
      where
        go : Stands (place s r) → IsNear (view free s) r (place s r) (h + 2 * k + 1)
        go (stands_at it) = settled (longer (view free s) r (place s r) (h + k + 1) (h + 2 * k + 1) (omega arith) it)
        go (stands_clearing p e own serves dark it) = it

-- ## A phase in an order

unless_cut : (q : ℕ) (xs : List ℕ) (C : Type 0) (b : Bool) → (among q xs ≡ true → C) → among q (if b then [] else xs) ≡ true → C
unless_cut q xs C true f h = absurd (false≢true h)
unless_cut q xs C false f h = f h

unless_cut_after : (x q : ℕ) (xs : List ℕ) (C : Type 0) (b : Bool) → (among q (after x xs) ≡ true → C) → among q (after x (if b then [] else xs)) ≡ true → C
unless_cut_after x q xs C true f h = absurd (false≢true h)
unless_cut_after x q xs C false f h = f h

-- what comes after a phase in the first part of a list comes after it in the whole
after_up_to : (l x q : ℕ) (ps : List ℕ) → among q (after x (up_to l ps)) ≡ true → among q (after x ps) ≡ true
after_up_to l x q [] h = h
after_up_to l x q (y ∷ ys) h =
    elim (cases_Bool (y == x)) [
      | inl e ↦ rw e (unless_cut q (up_to l ys) (among q ys ≡ true) (y == l) (up_to-among l q ys) (rw e at h))
      | inr e ↦ rw e (unless_cut_after x q (up_to l ys) (among q (after x ys) ≡ true) (y == l) (after_up_to l x q ys) (rw e at h))
    ]

-- the first of an order that passes a test is q, or q comes later than it; in the whole order, and in its first part
pub first_or_later : (test : ℕ → Bool) (c q : ℕ) (ps : List ℕ) → first test ps ≡ Some c → among q ps ≡ true → test q ≡ true →
    (c ≡ q) ⊎ (among q (later (Some c) ps) ≡ true)
first_or_later test c q ps h there passes = first_before test c q ps h there passes

pub again_or_later : (test : ℕ → Bool) (last : Option ℕ) (c q : ℕ) (ps : List ℕ) → first test (not_later last ps) ≡ Some c →
    among q (not_later last ps) ≡ true → test q ≡ true → (c ≡ q) ⊎ (among q (later (Some c) ps) ≡ true)
again_or_later test None c q ps h there passes = absurd (false≢true there)
again_or_later test (Some l) c q ps h there passes =
    elim (first_before test c q (up_to l ps) h there passes) [ inl k ↦ inl k | inr k ↦ inr (after_up_to l c q ps k) ]
