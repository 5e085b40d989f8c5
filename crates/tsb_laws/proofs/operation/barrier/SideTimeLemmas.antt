-- Times summed by sides, whatever time each phase takes: what both orders have of a side, and what is crossed before
-- another. For the laws that called phases are served, in free operation and in patterns.
use Rattle.std.proofs.Common.{◌≡◌, ◌≢◌, ℕ, ◌+◌, ◌*◌, ◌≤◌, Bool, true, false, not, ◌&&◌, if◌then◌else◌, List, [], ◌∷◌, refl, sym, ap, ◌∙◌, arith}
use Rattle.std.proofs.lemmas.Bool.{and_parts, eqb-true, true≢false, false_from_ne_true, and_from}
use Rattle.std.proofs.lemmas.Nat.{row_fits}
use Rattle.tsb_step.specs.tsb_types.Lists.{among}
use Rattle.tsb_step.specs.tsb_plan.declared.object.Object.TheVariants.{PhaseSide}
use Rattle.tsb_step.specs.tsb_plan.Plan.{Plan, phases, is_enabled, ring_of, side_of}
use Rattle.tsb_step.specs.tsb_rules.Consistent.{IsPlaced, ListsRing}
use Rattle.tsb_step.proofs.tsb_rules.ConsistentLemmas.{placed}
use Rattle.tsb_step.specs.tsb_ring.Rings.{Ring, Ring1, Ring2, number}
use Rattle.tsb_step.specs.tsb_ring.Wants.{is_on_side}
use Rattle.tsb_step.specs.State.{State}
use Rattle.tsb_step.specs.Laws.{IsConsistent}
use Rattle.tsb_step.specs.Good.{IsGood}
use Rattle.tsb_step.proofs.GivenLemmas.{listed_is_phase}
use Rattle.tsb_laws.specs.ServedCalls.{times_where, times_on}
use Rattle.tsb_laws.proofs.operation.barrier.SideSumLemmas.{sum_of, sum_apart, sum_more, sum_within, IsSide, away, away_itself, away_most, away_some, is_here, is_before, is_between, before_is, to_before, way_on, goes_by}
use Rattle.tsb_laws.proofs.operation.calls.RingPlaceLemmas.{view, order_of}
use Rattle.tsb_laws.proofs.operation.step.OpenTickLemmas.{listed, lists}

where_is : (test : ℕ → Bool) (time : ℕ → ℕ) (ps : List ℕ) → times_where test time ps ≡ sum_of test time ps
where_is test time [] = refl
where_is test time (p ∷ ps) = ap (λ (n : ℕ). (if test p then time p else 0) + n) (where_is test time ps)

module _ (time : ℕ → ℕ) (k : ℕ) where
  -- of the enabled phases of side d
  abbrev pub here_of : Plan → ℕ → ℕ
  here_of plan d = sum_of (is_here plan d) time (phases plan)

  -- of all sides that are crossed from d before t, and for each crossing what it takes
  abbrev pub far_of : Plan → ℕ → ℕ → ℕ
  far_of plan d t = sum_of (is_between plan d t) time (phases plan) + away plan.side_count d t * (3 * k + 3)

  -- both rings have those of a side in their orders
  module _ (free : Bool) (s : State) (good : IsGood s) (d : ℕ) (some : 1 ≤ d) where
    its : (r : Ring) → ListsRing s.plan (number r) (order_of (view free s) r)
    its r = lists free s good r

    zero_out : is_on_side s.plan d 0 ≡ false
    zero_out =
        false_from_ne_true _ (λ h. (let same : side_of s.plan 0 ≡ d = eqb-true (side_of s.plan 0) d h in let none : side_of s.plan 0 ≡ 0 = good.plan.placed PhaseSide 0 refl in omega (arith, same, none, some)))

    within : Ring → ℕ → Bool
    within r p = among p (order_of (view free s) r) && is_on_side s.plan d p

    some_phase : (p : ℕ) → is_on_side s.plan d p ≡ true → p ≢ 0
    some_phase p h zero_is = true≢false (sym h ∙ ap (λ (x : ℕ). is_on_side s.plan d x) zero_is ∙ zero_out)

    one : (r : Ring) → times_on time s.plan d (order_of (view free s) r) ≤ sum_of (within r) time (phases s.plan)
    unfolding within
    one r =
        let sums = where_is (is_on_side s.plan d) time (order_of (view free s) r) in
        let most = sum_within (is_on_side s.plan d) time (phases s.plan) (order_of (view free s) r) zero_out ((its r).once)
        (λ p there one_too. listed s good p ((its r).only_enabled p there one_too)) in
        omega (arith, sums, most)

    placed_here : (r : Ring) (p : ℕ) → within r p ≡ true → is_here s.plan d p ≡ true
    unfolding within
    placed_here r p h =
        let both = and_parts (among p (order_of (view free s) r)) (is_on_side s.plan d p) h in
        and_from (is_enabled s.plan p) (is_on_side s.plan d p) ((its r).only_enabled p both.0 (some_phase p both.1)) both.1

    apart : (p : ℕ) → within Ring1 p ≡ true → within Ring2 p ≡ true → ⊥
    unfolding within
    apart p h g =
        let first = and_parts (among p (order_of (view free s) Ring1)) (is_on_side s.plan d p) h in
        let second = and_parts (among p (order_of (view free s) Ring2)) (is_on_side s.plan d p) g in
        let one_is : ring_of s.plan p ≡ 1 = (its Ring1).only_ring p first.0 (some_phase p first.1) in
        let two_is : ring_of s.plan p ≡ 2 = (its Ring2).only_ring p second.0 (some_phase p first.1) in
        omega (arith, one_is, two_is)

    pub both_in_order : times_on time s.plan d (order_of (view free s) Ring1) + times_on time s.plan d (order_of (view free s) Ring2) ≤ here_of s.plan d
    both_in_order =
        let first = one Ring1 in let second = one Ring2 in
        let both = sum_apart (within Ring1) (within Ring2) (is_here s.plan d) time (phases s.plan) (λ p l h. placed_here Ring1 p h) (λ p l h. placed_here Ring2 p h) apart in
        omega (arith, first, second, both)

  module _ (plan : Plan) (d t : ℕ) (ok : IsConsistent plan) (from : IsSide plan.side_count d) (to : IsSide plan.side_count t) where
    side_is : (p : ℕ) → among p (phases plan) ≡ true → is_enabled plan p ≡ true → IsSide plan.side_count (side_of plan p)
    side_is p there on =
        let it : IsPlaced plan p = placed plan ok.rules p (listed_is_phase plan p there) on in
        record { from_one = it.side_from; within = it.side_to }

    -- a crossing to a side before t
    pub nearer_of : (e : ℕ) → IsSide plan.side_count e → e ≢ t → away plan.side_count d e + 1 ≤ away plan.side_count d t →
        here_of plan e + far_of plan e t + (3 * k + 3) ≤ far_of plan d t
    nearer_of e on other sooner =
        let whole = way_on plan.side_count d e t from on to other sooner in
        let some = away_some plan.side_count d e from on in
        let product : away plan.side_count e t * (3 * k + 3) + (3 * k + 3) ≤ away plan.side_count d t * (3 * k + 3) =
        row_fits (away plan.side_count e t) (3 * k + 3) (away plan.side_count d t) (3 * k + 3) (omega (arith, whole, some)) (omega arith) in
        let both : here_of plan e + sum_of (is_between plan e t) time (phases plan) ≤ sum_of (is_between plan d t) time (phases plan) =
        sum_apart (is_here plan e) (is_between plan e t) (is_between plan d t) time (phases plan) here_too later_too apart_too in
        omega (arith, product, both)
      where
        here_too : (p : ℕ) → among p (phases plan) ≡ true → is_here plan e p ≡ true → is_between plan d t p ≡ true
        here_too p there h =
            let parts = and_parts (is_enabled plan p) (is_on_side plan e p) h in
            let same : side_of plan p ≡ e = eqb-true (side_of plan p) e parts.1 in
            let moved : away plan.side_count d (side_of plan p) ≡ away plan.side_count d e = ap (λ (x : ℕ). away plan.side_count d x) same in
            and_from (is_enabled plan p) (is_before plan.side_count d t (side_of plan p)) parts.0
            (to_before plan.side_count d t (side_of plan p) (omega (arith, moved, sooner)))

        later_too : (p : ℕ) → among p (phases plan) ≡ true → is_between plan e t p ≡ true → is_between plan d t p ≡ true
        later_too p there h =
            let parts = and_parts (is_enabled plan p) (is_before plan.side_count e t (side_of plan p)) h in
            and_from (is_enabled plan p) (is_before plan.side_count d t (side_of plan p)) parts.0
            (to_before plan.side_count d t (side_of plan p)
            (goes_by plan.side_count d e t (side_of plan p) from on to (side_is p there parts.0) other sooner
            (before_is plan.side_count e t (side_of plan p) parts.1)))

        apart_too : (p : ℕ) → is_here plan e p ≡ true → is_between plan e t p ≡ true → ⊥
        apart_too p h g =
            let same : side_of plan p ≡ e = eqb-true (side_of plan p) e (and_parts (is_enabled plan p) (is_on_side plan e p) h).1 in
            let later = before_is plan.side_count e t (side_of plan p) (and_parts (is_enabled plan p) (is_before plan.side_count e t (side_of plan p)) g).1 in
            let itself : away plan.side_count e (side_of plan p) ≡ plan.side_count = ap (λ (x : ℕ). away plan.side_count e x) same ∙ away_itself plan.side_count e in
            let most = away_most plan.side_count e t on to in
            omega (arith, later, itself, most)

  -- from side t all other sides are crossed before it
  pub far_around : (plan : Plan) (t : ℕ) → far_of plan t t
      ≤ times_where (λ p. is_enabled plan p && not (is_on_side plan t p)) time (phases plan) + plan.side_count * (3 * k + 3)
  far_around plan t =
      let sums = where_is (λ p. is_enabled plan p && not (is_on_side plan t p)) time (phases plan) in
      let product = ap (λ (n : ℕ). n * (3 * k + 3)) (away_itself plan.side_count t) in
      let most = sum_more (is_between plan t t) (λ p. is_enabled plan p && not (is_on_side plan t p)) time (phases plan) off in
      omega (arith, sums, product, most)
    where
      off : (p : ℕ) → is_between plan t t p ≡ true → (is_enabled plan p && not (is_on_side plan t p)) ≡ true
      off p h =
          let parts = and_parts (is_enabled plan p) (is_before plan.side_count t t (side_of plan p)) h in
          let not_here : is_on_side plan t p ≡ false = false_from_ne_true _ (λ e.
          (let same : side_of plan p ≡ t = eqb-true (side_of plan p) t e in
          let before = before_is plan.side_count t t (side_of plan p) parts.1 in
          let moved : away plan.side_count t (side_of plan p) ≡ away plan.side_count t t = ap (λ (x : ℕ). away plan.side_count t x) same in
          omega (arith, before, moved))) in
          and_from (is_enabled plan p) (not (is_on_side plan t p)) parts.0 (ap not not_here)
