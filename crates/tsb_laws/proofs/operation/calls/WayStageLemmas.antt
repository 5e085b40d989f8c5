-- The way of two rings until a phase that stays called is Green: its stages, and how long each takes with all that come
-- after it. The phase is c, of ring r. For the laws that called phases are served, in free operation and in patterns.
use Rattle.std.proofs.Common.{◌≡◌, ◌≢◌, ℕ, ◌+◌, ◌*◌, ◌≤◌, Bool, true, false, Option, Some, None, refl, ap, ◌∙◌, inl, inr, ◌⊎◌, arith}
use Rattle.std.proofs.lemmas.Bool.{cases_eq}
use Rattle.tsb_step.specs.tsb_types.declared.interval.Interval.TheVariants.{Green}
use Rattle.tsb_step.specs.tsb_types.Intervals.{in_service}
use Rattle.tsb_step.specs.tsb_types.Lists.{among, later}
use Rattle.tsb_step.specs.tsb_plan.Plan.{side_of, yellow_change, red_clear, red_revert}
use Rattle.tsb_step.specs.tsb_ring.Rings.{Ring, Ring1, Ring2, other}
use Rattle.tsb_step.specs.State.{State, interval}
use Rattle.tsb_step.specs.Good.{IsGood}
use Rattle.tsb_step.proofs.tsb_phase.ReadLemmas.{is-red}
use Rattle.tsb_laws.specs.ServedCalls.{times_on, place}
use Rattle.tsb_laws.proofs.operation.barrier.SideSumLemmas.{IsSide, away, away_itself, away_other}
use Rattle.tsb_laws.proofs.operation.step.PhaseLeftLemmas.{clear_left, back_left, clear_most, back_most}
use Rattle.tsb_laws.proofs.operation.calls.RingPlaceLemmas.{View, view, order_of, later_most, IsAt, IsNear}
use Rattle.tsb_laws.proofs.operation.barrier.SideTimeLemmas.{far_of, both_in_order, nearer_of}

-- within m ticks all is over, and what the rings are committed to has reverted
pub record IsOver (m : ℕ) (v : View) : Type 0 where
  pub clears : (p : ℕ) → clear_left v.plan p (v.phases p) ≤ m
  pub reverts : (r : Ring) (c : ℕ) → v.rings.commitment r ≡ Some c → back_left v.plan c (v.phases c) ≤ m

-- so it is within the largest clearance and red revert, where no commitment is in service
pub over_in : (free : Bool) (s : State) (k : ℕ) → ((p : ℕ) → yellow_change s.plan p + red_clear s.plan p ≤ k) → ((p : ℕ) → red_revert s.plan p ≤ k) →
    ((r : Ring) (c : ℕ) → s.rings.commitment r ≡ Some c → in_service (interval s c) ≡ false) → IsOver k (view free s)
over_in free s k clears reverts red = record {
  clears = λ p. (let most = clear_most s.plan p (s.phases p) in let limit = clears p in omega (arith, most, limit));
  reverts = λ r c e. (let most = back_most s.plan c (s.phases c) (is-red (interval s c) (red r c e)) in let limit = reverts c in omega (arith, most, limit));
}

module _ (longest : ℕ → ℕ) (Lasts : View → ℕ → ℕ → Type 0) (k h : ℕ) (r : Ring) (c : ℕ) where
  -- ## Times

  abbrev pub turn_of : ℕ → ℕ
  turn_of p = longest p + k + 2

  -- what a ring has begun
  abbrev pub begun : ℕ
  begun = h + 2 * k + 1

  -- the turns beside c of the ring, and of the other ring with what it has begun
  abbrev pub beside : View → ℕ
  beside v = times_on turn_of v.plan (side_of v.plan c) (order_of v r)

  abbrev pub across : View → ℕ
  across v = times_on turn_of v.plan (side_of v.plan c) (order_of v (other r)) + begun

  -- the ring goes on from a place, and waits for the other at each
  abbrev pub passing : View → Option ℕ → ℕ
  passing v o = times_on (λ p. turn_of p + across v + 1) v.plan (side_of v.plan c) (later o (order_of v r))

  -- the turns of both rings on side d
  abbrev pub sides : View → ℕ → ℕ
  sides v d = times_on turn_of v.plan d (order_of v Ring1) + times_on turn_of v.plan d (order_of v Ring2)

  -- after side d: all sides that are crossed before that of c, and then that
  abbrev pub abroad : View → ℕ → ℕ
  abroad v d = beside v + k + 2 + far_of turn_of k v.plan d (side_of v.plan c)

  -- ## Stages

  -- both rings have come to side d, and cross from it in n ticks at most
  pub record Beyond (v : View) (d n : ℕ) : Type 0 where
    pub first_place : Option ℕ
    pub first_ticks : ℕ
    pub second_place : Option ℕ
    pub second_ticks : ℕ
    pub first : IsNear longest Lasts v Ring1 first_place first_ticks
    pub second : IsNear longest Lasts v Ring2 second_place second_ticks
    pub there : v.rings.side ≡ d
    pub all : first_ticks + times_on turn_of v.plan d (later first_place (order_of v Ring1))
        + (second_ticks + times_on turn_of v.plan d (later second_place (order_of v Ring2))) ≤ n

  -- left: how many ticks are left at most
  pub data Stage (v : View) (left : ℕ) : Type 0 where
    arrived : (v.phases c).interval ≡ Green → Stage v left
    -- on the side of c, and c comes later in the order of its ring
    coming : (o : Option ℕ) (u : ℕ) → IsAt longest Lasts v r o u → v.rings.side ≡ side_of v.plan c → v.rings.crossing ≡ None →
        (v.rings.commitment r ≡ Some c) ⊎ (among c (later o (order_of v r)) ≡ true) → u + times_on turn_of v.plan (side_of v.plan c) (later o (order_of v r)) ≤ left → Stage v left
    -- on the side of c, wherever the rings are
    passed : (o : Option ℕ) (u : ℕ) → IsNear longest Lasts v r o u → v.rings.side ≡ side_of v.plan c → v.rings.crossing ≡ None →
        u + 1 + across v + passing v o + abroad v (side_of v.plan c) ≤ left → Stage v left
    -- the ring of c waits at the barrier for the other
    at_gate : (o x : Option ℕ) (w : ℕ) → IsNear longest Lasts v r o 0 → IsNear longest Lasts v (other r) x w → v.rings.side ≡ side_of v.plan c → v.rings.crossing ≡ None →
        w + times_on turn_of v.plan (side_of v.plan c) (later x (order_of v (other r))) + passing v o + abroad v (side_of v.plan c) ≤ left → Stage v left
    -- on another side
    away_from : (d n : ℕ) → Beyond v d n → d ≢ side_of v.plan c → IsSide v.plan.side_count d → v.rings.crossing ≡ None → n + abroad v d ≤ left → Stage v left
    -- in a crossing to another side
    crossing_to : (d m : ℕ) → v.rings.crossing ≡ Some d → d ≢ side_of v.plan c → IsSide v.plan.side_count d → IsOver m v →
        m + 2 * k + 1 + sides v d + abroad v d ≤ left → Stage v left
    -- in a crossing to the side of c, with c or a phase before it
    crossing_home : (m x : ℕ) → v.rings.crossing ≡ Some (side_of v.plan c) → IsOver m v → v.rings.commitment r ≡ Some x →
        (x ≡ c) ⊎ (among c (later (Some x) (order_of v r)) ≡ true) → m + 1 + beside v ≤ left → Stage v left
    -- in a crossing to the side of c, whatever the rings are committed to
    crossing_back : (m : ℕ) → v.rings.crossing ≡ Some (side_of v.plan c) → IsOver m v →
        m + 1 + (begun + 1 + across v + passing v None + abroad v (side_of v.plan c)) ≤ left → Stage v left

  -- ## Sums

  pub passing_most : (v : View) (o : Option ℕ) → passing v o ≤ passing v None
  passing_most v o = later_most (λ p. turn_of p + across v + 1) v.plan (side_of v.plan c) o (order_of v r)

  -- a nearer side is nearer by all that is left there
  pub nearer_by : (free : Bool) (s : State) → IsGood s → IsSide s.plan.side_count (side_of s.plan c) → (d e : ℕ) → IsSide s.plan.side_count d → IsSide s.plan.side_count e → e ≢ side_of s.plan c →
      away s.plan.side_count d e + 1 ≤ away s.plan.side_count d (side_of s.plan c) → sides (view free s) e + abroad (view free s) e + (3 * k + 3) ≤ abroad (view free s) d
  nearer_by free s good its_side d e from on other sooner =
      let all = nearer_of turn_of k s.plan d (side_of s.plan c) good.plan from its_side e on other sooner in
      let both = both_in_order turn_of k free s good e on.from_one in
      omega (arith, all, both)

  -- ## All that is left at any moment

  abbrev pub all_left : View → ℕ
  all_left v = k + 1 + (begun + 1 + across v + passing v None + abroad v (side_of v.plan c))

  module _ (free : Bool) (s : State) (good : IsGood s) (side : IsSide s.plan.side_count s.rings.side) (crosses : (d : ℕ) → s.rings.crossing ≡ Some d → IsSide s.plan.side_count d)
      (its_side : IsSide s.plan.side_count (side_of s.plan c)) (over : IsOver k (view free s))
      (places : (x : Ring) → s.rings.crossing ≡ None → IsNear longest Lasts (view free s) x (place s x) begun) where
    other_side : (d : ℕ) → IsSide s.plan.side_count d → d ≢ side_of s.plan c → sides (view free s) d + abroad (view free s) d + (3 * k + 3) ≤ abroad (view free s) (side_of s.plan c)
    other_side d on far =
        let less = away_other s.plan.side_count (side_of s.plan c) d its_side on far in
        let itself = away_itself s.plan.side_count (side_of s.plan c) in
        nearer_by free s good its_side (side_of s.plan c) d its_side on far (omega (arith, less, itself))

    -- both rings go on from their places, and come through their orders
    pub beyond_now : s.rings.crossing ≡ None →
        Beyond (view free s) s.rings.side (times_on turn_of s.plan s.rings.side (later (place s Ring1) (order_of (view free s) Ring1))
        + times_on turn_of s.plan s.rings.side (later (place s Ring2) (order_of (view free s) Ring2)) + 2 * begun)
    beyond_now out = record {
      first_place = place s Ring1;
      first_ticks = begun;
      second_place = place s Ring2;
      second_ticks = begun;
      first = places Ring1 out;
      second = places Ring2 out;
      there = refl;
      all = omega arith;
    }

    on_side : s.rings.crossing ≡ None → (s.rings.side ≡ side_of s.plan c) ⊎ (s.rings.side ≢ side_of s.plan c) → Stage (view free s) (all_left (view free s))
    on_side out (inl here) = passed (place s r) begun (places r out) here out (let most = passing_most (view free s) (place s r) in omega (arith, most))
    on_side out (inr far) =
        let first = later_most turn_of s.plan s.rings.side (place s Ring1) (order_of (view free s) Ring1) in
        let second = later_most turn_of s.plan s.rings.side (place s Ring2) (order_of (view free s) Ring2) in
        let near = other_side s.rings.side side far in
        away_from s.rings.side (times_on turn_of s.plan s.rings.side (later (place s Ring1) (order_of (view free s) Ring1))
        + times_on turn_of s.plan s.rings.side (later (place s Ring2) (order_of (view free s) Ring2)) + 2 * begun) (beyond_now out) far side out
        (omega (arith, first, second, near))

    in_crossing : (d : ℕ) → s.rings.crossing ≡ Some d → (d ≡ side_of s.plan c) ⊎ (d ≢ side_of s.plan c) → Stage (view free s) (all_left (view free s))
    in_crossing d way (inl home) = crossing_back k (way ∙ ap Some home) over (omega arith)
    in_crossing d way (inr far) = let near = other_side d (crosses d way) far in crossing_to d k way far (crosses d way) over (omega (arith, near))

    pub stage_now : Stage (view free s) (all_left (view free s))
    stage_now = go s.rings.crossing refl
      where
        go : (o : Option ℕ) → s.rings.crossing ≡ o → Stage (view free s) (all_left (view free s))
        go None e = on_side e (cases_eq s.rings.side (side_of s.plan c))
        go (Some d) e = in_crossing d e (cases_eq d (side_of s.plan c))
