-- A tick on the way of two rings to a phase that stays called, whatever they do: also one in which a crossing begins,
-- is under way or is completed. For the laws that called phases are served, in free operation and in patterns.
use Rattle.std.proofs.Common.{◌≡◌, ◌≢◌, ◌&&◌, ℕ, ◌+◌, ◌-◌, ◌*◌, ◌≤◌, Bool, true, false, List, Option, Some, None, refl, sym, ap, ◌∙◌, inl, inr, ◌⊎◌, arith}
use Rattle.std.proofs.lemmas.Bool.{cases_Bool, cases_eq, eq-eqb, true≢false}
use Rattle.tsb_step.specs.tsb_types.declared.interval.Interval.TheVariants.{Green}
use Rattle.tsb_step.specs.tsb_types.declared.row.Row.{Row}
use Rattle.tsb_step.specs.tsb_types.Intervals.{is_green}
use Rattle.tsb_step.specs.tsb_types.Lists.{among, later}
use Rattle.tsb_step.specs.tsb_plan.Plan.{phases, is_enabled, side_of, yellow_change, red_clear, red_revert}
use Rattle.tsb_step.specs.tsb_ring.Rings.{Ring, Ring1, Ring2, in_ring}
use Rattle.tsb_step.specs.tsb_ring.Wants.{is_on_side}
use Rattle.tsb_step.specs.tsb_ring.Crossings.{begins, is_called_on, target_side}
use Rattle.tsb_step.specs.State.{State, interval}
use Rattle.tsb_step.specs.Tick.{callable, rings_given, after_moves}
use Rattle.tsb_step.specs.Good.{IsGood}
use Rattle.tsb_step.specs.TimeLaws.{IsSided}
use Rattle.tsb_step.proofs.GivenLemmas.{given}
use Rattle.tsb_step.proofs.tsb_phase.ReadLemmas.{is-red}
use Rattle.tsb_laws.specs.CrossingGreens.{IsCalm}
use Rattle.tsb_laws.specs.ServedCalls.{times_on, place}
use Rattle.tsb_laws.specs.Stretches.{has_no_trails}
use Rattle.tsb_laws.proofs.safety.EnabledLemmas.{AreEnabled, callable_on}
use Rattle.tsb_laws.proofs.safety.SideSoughtLemmas.{found_some, goes_to_other}
use Rattle.tsb_laws.proofs.operation.step.AcrossLemmas.{GoesAcross}
use Rattle.tsb_laws.proofs.operation.step.PhaseLeftLemmas.{back_most}
use Rattle.tsb_laws.proofs.operation.step.PhaseTimeLemmas.{IsTimed}
use Rattle.tsb_laws.proofs.operation.barrier.BarrierWishLemmas.{begun_crosses}
use Rattle.tsb_laws.proofs.operation.barrier.CrossingTickLemmas.{IsOverIn, HasEntered, Crosses, crosses_on, has_crossed, crossing_tick}
use Rattle.tsb_laws.proofs.operation.barrier.SideRangeLemmas.{GoesTo, goes_to_next}
use Rattle.tsb_laws.proofs.operation.barrier.SideSumLemmas.{IsSide, away, away_itself, away_other, away_apart}
use Rattle.tsb_laws.proofs.operation.barrier.HomeEntryLemmas.{Enters, enters_home}
use Rattle.tsb_laws.proofs.operation.calls.RingPlaceLemmas.{View, view, order_of, times_later, in_green, at_rest, IsNear, settled}
use Rattle.tsb_laws.proofs.operation.step.OpenTickLemmas.{callable_told, IsOpenTick, fair, listed, some_phase, once, in_order}
use Rattle.tsb_laws.proofs.operation.calls.RingStepLemmas.{BoundsGreens}
use Rattle.tsb_laws.proofs.operation.calls.WayStageLemmas.{IsOver, turn_of, begun, beside, across, passing, sides, abroad, nearer_by, passing_most, Stage, arrived, coming, passed, at_gate, away_from, crossing_to, crossing_home, crossing_back}
use Rattle.tsb_laws.proofs.operation.calls.WayTickLemmas.{LessFor, not_begun, out_then, coming_tick, passed_tick, gate_tick, away_tick}

-- of the state that a tick finds and of the one that it leaves
pub record IsOnWay (free : Bool) (longest : ℕ → ℕ) (Lasts : View → ℕ → ℕ → Type 0) (k h c : ℕ) (s : State) (row : Row) : Type 0 where
  pub untrailed : has_no_trails s.plan ≡ true
  pub good : IsGood s
  pub few : s.plan.phase_count ≤ 16
  pub calm : IsCalm s.plan (interval s) s.rings
  pub sided : IsSided s.plan (interval s) s.rings
  pub on : AreEnabled s.plan (interval s) s.rings
  pub goes_across : GoesAcross s.plan (interval s) s.rings
  pub timed : (p : ℕ) → IsTimed (s.phases p)
  pub when_open : s.rings.crossing ≡ None → IsOpenTick s row
  pub bounds : BoundsGreens free longest Lasts s row
  pub clears : (p : ℕ) → yellow_change s.plan p + red_clear s.plan p ≤ k
  pub reverts : (p : ℕ) → red_revert s.plan p ≤ k
  pub side : IsSide s.plan.side_count s.rings.side
  pub its_side : IsSide s.plan.side_count (side_of s.plan c)
  pub over : IsOver k (view free (after_moves s row))
  pub places : (after_moves s row).rings.crossing ≡ None → (x : Ring) → IsNear longest Lasts (view free (after_moves s row)) x (place (after_moves s row) x) (h + 2 * k + 1)
  pub greens : (p : ℕ) → interval (after_moves s row) p ≡ Green → Lasts (view free (after_moves s row)) p (longest p)

module _ (free : Bool) (longest : ℕ → ℕ) (Lasts : View → ℕ → ℕ → Type 0) (k h : ℕ) (r : Ring) (c : ℕ) (s : State) (row : Row) (it : IsOnWay free longest Lasts k h c s row) (own : in_ring s.plan r c ≡ true)
    (enabled : is_enabled s.plan c ≡ true) (called : callable s row c ≡ true) (dark : is_green (interval s c) ≡ false) where
  abbrev pub Further : ℕ → Type 0
  Further left = LessFor (λ n. Stage longest Lasts k h r c (view free (after_moves s row)) n) left

  -- ## A crossing begins

  module _ (out : s.rings.crossing ≡ None) (b : begins s.plan s.rings (rings_given s row) ≡ true) where
    tick : IsOpenTick s row
    tick = it.when_open out

    told : (rings_given s row).callable c ≡ true
    told = callable_told s row c it.few (listed s it.good c enabled) called

    abbrev goal : ℕ
    goal = target_side s.plan s.rings (rings_given s row)

    another : goal ≡ s.rings.side → ⊥
    another = goes_to_other s.plan s.rings (rings_given s row) it.good.plan.rules (callable_on s row) (given s row it.good).pairwise b

    goes : GoesTo s.plan s.rings (rings_given s row)
    goes = goes_to_next s.plan s.rings (rings_given s row) (fair s row tick).free it.side another

    its_call : is_called_on s.plan (rings_given s row) (side_of s.plan c) ≡ true
    its_call =
        found_some (λ p. (rings_given s row).callable p && is_on_side s.plan (side_of s.plan c) p) (phases s.plan) c (listed s it.good c enabled)
        (rw (told, eq-eqb (side_of s.plan c) (side_of s.plan c) refl) refl)

    way : (after_moves s row).rings.crossing ≡ Some (target_side s.plan s.rings (rings_given s row))
    way = begun_crosses s.plan s.rings (rings_given s row) b

    -- another side than that of c is crossed to before it
    sooner : goal ≢ side_of s.plan c → away s.plan.side_count s.rings.side goal + 1 ≤ away s.plan.side_count s.rings.side (side_of s.plan c)
    sooner far =
        elim (cases_eq (side_of s.plan c) s.rings.side) [
          | inl here ↦ (let less = away_other s.plan.side_count s.rings.side goal it.side goes.is_side another in
              let itself = away_itself s.plan.side_count s.rings.side in
              let same : away s.plan.side_count s.rings.side (side_of s.plan c) ≡ away s.plan.side_count s.rings.side s.rings.side = ap (λ (d : ℕ). away s.plan.side_count s.rings.side d) here in
              omega (arith, less, itself, same))
          | inr other ↦ (let least = goes.nearest (side_of s.plan c) it.its_side other its_call in
              let apart = away_apart s.plan.side_count s.rings.side goal (side_of s.plan c) it.side goes.is_side it.its_side far in
              omega (arith, least, apart))
        ]

    -- from side d, which is served
    sets_out : (left d : ℕ) → s.rings.side ≡ d → abroad longest Lasts k h r c (view free s) d ≤ left → Further left
    sets_out left d here all = go (cases_eq goal (side_of s.plan c))
      where
        later_in : (x : ℕ) → (x ≡ c) ⊎ (among c (later (Some x) ((rings_given s row).sequence r)) ≡ true) → (x ≡ c) ⊎ (among c (later (Some x) (order_of (view free s) r)) ≡ true)
        later_in x (inl same) = inl same
        later_in x (inr rest) = inr (ap (λ (l : List ℕ). among c (later (Some x) l)) (sym (it.bounds.sequenced r)) ∙ rest)

        go : (goal ≡ side_of s.plan c) ⊎ (goal ≢ side_of s.plan c) → Further left
        go (inl home) =
            let entry : Enters s.plan s.rings (rings_given s row) tick.full (callable_on s row) (fair s row tick).free b r c =
            enters_home s.plan s.rings (rings_given s row) tick.full (callable_on s row) (fair s row tick).free b r c own told
            (ap (λ (l : List ℕ). among c l) (it.bounds.sequenced r) ∙ in_order free s it.good r c own enabled) home in
            record {
              some = omega (arith, all);
              stage = crossing_home k entry.one (way ∙ ap Some home) it.over entry.bound
                  (later_in entry.one entry.ahead) (omega (arith, all));
            }
        go (inr far) =
            let near = nearer_by longest Lasts k h r c free s it.good it.its_side s.rings.side goal it.side goes.is_side far (sooner far) in
            let same : abroad longest Lasts k h r c (view free s) s.rings.side ≡ abroad longest Lasts k h r c (view free s) d = ap (λ (e : ℕ). abroad longest Lasts k h r c (view free s) e) here in
            record {
              some = omega (arith, all);
              stage = crossing_to goal k way far goes.is_side it.over (omega (arith, near, same, all));
            }

  -- ## Outside a crossing

  -- a crossing begins, or none does
  either : (left d : ℕ) (out : s.rings.crossing ≡ None) → s.rings.side ≡ d → abroad longest Lasts k h r c (view free s) d ≤ left →
      (begins s.plan s.rings (rings_given s row) ≡ false → Further left) → Further left
  either left d out here all goes =
      elim (cases_Bool (begins s.plan s.rings (rings_given s row))) [
        | inl b ↦ sets_out out b left d here all
        | inr b ↦ goes b
      ]

  -- ## In a crossing

  crossed : (d m : ℕ) → s.rings.crossing ≡ Some d → IsOver m (view free s) → Crosses s (after_moves s row) d m
  crossed d m way over =
      crossing_tick s row it.good it.few it.untrailed it.calm it.sided it.goes_across it.timed d way m (record { clears = over.clears; reverts = over.reverts })

  over_of : (m : ℕ) → IsOverIn m (after_moves s row) → IsOver m (view free (after_moves s row))
  over_of m over = record { clears = over.clears; reverts = over.reverts }

  -- a ring as a crossing to side d is completed: what it has left is no more than its turns there, and a red revert
  record Arrived (x : Ring) (d : ℕ) : Type 0 where
    come_to : Option ℕ
    ticks : ℕ
    near : IsNear longest Lasts (view free (after_moves s row)) x come_to ticks
    most : ticks + times_on (turn_of longest Lasts k h r c) s.plan d (later come_to (order_of (view free s) x)) ≤ k + times_on (turn_of longest Lasts k h r c) s.plan d (order_of (view free s) x)

  -- the phase that it was committed to has its turn
  entry_fewer : (x : Ring) (d q : ℕ) → s.rings.crossing ≡ Some d → s.rings.commitment x ≡ Some q →
      turn_of longest Lasts k h r c q + times_on (turn_of longest Lasts k h r c) s.plan d (later (Some q) (order_of (view free s) x)) ≤ times_on (turn_of longest Lasts k h r c) s.plan d (order_of (view free s) x)
  entry_fewer x d q way e =
      let on : is_enabled s.plan q ≡ true = it.on.promised x q e in
      let own_q : in_ring s.plan x q ≡ true = (it.good.rings.owned x q e).0 in
      times_later (turn_of longest Lasts k h r c) s.plan d None q (order_of (view free s) x) (some_phase s it.good q on) (once free s it.good x)
      (eq-eqb (side_of s.plan q) d (it.sided.across d way x q e)) (in_order free s it.good x q own_q on)

  arrives : (x : Ring) (d : ℕ) → s.rings.crossing ≡ Some d → HasEntered s (after_moves s row) x → Arrived x d
  arrives x d way entered = go (s.rings.commitment x) refl
    where
      go : (o : Option ℕ) → s.rings.commitment x ≡ o → Arrived x d
      go (Some q) e =
          let fewer = entry_fewer x d q way e in
          let green : interval (after_moves s row) q ≡ Green = (entered.starts q e).0 in
          record {
            come_to = Some q;
            ticks = longest q;
            near = settled (in_green q (longest q) entered.free (entered.starts q e).1 (it.good.rings.owned x q e).0 green (it.greens q green) (omega arith));
            most = omega (arith, fewer);
          }
      go None e = record {
        come_to = None;
        ticks = k;
        near = settled (at_rest k entered.free (entered.idles e).0 (entered.idles e).1
            (λ p own_p. (let back = back_most s.plan p ((after_moves s row).phases p) (is-red (interval (after_moves s row) p) ((entered.idles e).1 p own_p)) in let limit = it.reverts p in omega (arith, back, limit)))
            (omega arith));
        most = omega arith;
      }

  crossing_tick_to : (left d m : ℕ) → s.rings.crossing ≡ Some d → d ≢ side_of s.plan c → IsSide s.plan.side_count d → IsOver m (view free s) →
      m + 2 * k + 1 + sides longest Lasts k h r c (view free s) d + abroad longest Lasts k h r c (view free s) d ≤ left → Further left
  crossing_tick_to left d m way far is_side over all = go (crossed d m way over)
    where
      go : Crosses s (after_moves s row) d m → Further left
      go (crosses_on some way_then same over_then) =
          record { some = omega (arith, all); stage = crossing_to d (m - 1) way_then far is_side (over_of (m - 1) over_then) (omega (arith, all, some)) }
      go (has_crossed out here entered) =
          let one = arrives Ring1 d way (entered Ring1) in
          let two = arrives Ring2 d way (entered Ring2) in
          let first = one.most in
          let second = two.most in
          record {
            some = omega (arith, all);
            stage = away_from d (one.ticks + times_on (turn_of longest Lasts k h r c) s.plan d (later one.come_to (order_of (view free s) Ring1))
                + (two.ticks + times_on (turn_of longest Lasts k h r c) s.plan d (later two.come_to (order_of (view free s) Ring2))))
                (record {
                  first_place = one.come_to;
                  first_ticks = one.ticks;
                  second_place = two.come_to;
                  second_ticks = two.ticks;
                  first = one.near;
                  second = two.near;
                  there = here;
                  all = omega arith;
                })
                far is_side out (omega (arith, first, second, all));
          }

  crossing_tick_home : (left m x : ℕ) → s.rings.crossing ≡ Some (side_of s.plan c) → IsOver m (view free s) → s.rings.commitment r ≡ Some x →
      (x ≡ c) ⊎ (among c (later (Some x) (order_of (view free s) r)) ≡ true) → m + 1 + beside longest Lasts k h r c (view free s) ≤ left → Further left
  crossing_tick_home left m x way over e ahead all = go (crossed (side_of s.plan c) m way over)
    where
      own_x : in_ring s.plan r x ≡ true
      own_x = (it.good.rings.owned r x e).0

      fewer : turn_of longest Lasts k h r c x + times_on (turn_of longest Lasts k h r c) s.plan (side_of s.plan c) (later (Some x) (order_of (view free s) r)) ≤ beside longest Lasts k h r c (view free s)
      fewer = entry_fewer r (side_of s.plan c) x way e

      enters : (after_moves s row).rings.crossing ≡ None → (after_moves s row).rings.side ≡ side_of s.plan c → HasEntered s (after_moves s row) r →
          (x ≡ c) ⊎ (among c (later (Some x) (order_of (view free s) r)) ≡ true) → Stage longest Lasts k h r c (view free (after_moves s row)) (left - 1)
      enters out here entered (inl same) = arrived (ap (λ (y : ℕ). interval (after_moves s row) y) (sym same) ∙ (entered.starts x e).0)
      enters out here entered (inr rest) =
          coming (Some x) (longest x) (in_green x (longest x) entered.free (entered.starts x e).1 own_x (entered.starts x e).0 (it.greens x (entered.starts x e).0) (omega arith)) here out (inr rest)
          (omega (arith, fewer, all))

      go : Crosses s (after_moves s row) (side_of s.plan c) m → Further left
      go (crosses_on some way_then same over_then) =
          record { some = omega (arith, all); stage = crossing_home (m - 1) x way_then (over_of (m - 1) over_then) (same r ∙ e) ahead (omega (arith, all, some)) }
      go (has_crossed out here entered) = record { some = omega (arith, all); stage = enters out here (entered r) ahead }

  crossing_tick_back : (left m : ℕ) → s.rings.crossing ≡ Some (side_of s.plan c) → IsOver m (view free s) →
      m + 1 + (begun longest Lasts k h r c + 1 + across longest Lasts k h r c (view free s) + passing longest Lasts k h r c (view free s) None + abroad longest Lasts k h r c (view free s) (side_of s.plan c)) ≤ left → Further left
  crossing_tick_back left m way over all = go (crossed (side_of s.plan c) m way over)
    where
      go : Crosses s (after_moves s row) (side_of s.plan c) m → Further left
      go (crosses_on some way_then same over_then) =
          record { some = omega (arith, all); stage = crossing_back (m - 1) way_then (over_of (m - 1) over_then) (omega (arith, all, some)) }
      go (has_crossed out here entered) =
          let most = passing_most longest Lasts k h r c (view free s) (place (after_moves s row) r) in
          record {
            some = omega (arith, all);
            stage = passed (place (after_moves s row) r) (begun longest Lasts k h r c) (it.places out r) here out (omega (arith, most, all));
          }

  -- ## Whatever the stage

  pub further : (left : ℕ) → Stage longest Lasts k h r c (view free s) left → Further left
  further left (arrived green) = absurd (true≢false (sym (ap is_green green) ∙ dark))
  further left (coming o u at here out ahead all) =
      coming_tick free longest Lasts k h r c s row (it.when_open out) it.bounds it.clears it.reverts own enabled called
      (not_begun free longest Lasts k h r c s row (it.when_open out) it.bounds it.clears it.reverts own enabled called o u at (sym here) ahead) (sym here) left o u at ahead all
  further left (passed o u at here out all) =
      either left (side_of s.plan c) out here (omega (arith, all))
      (λ b. passed_tick free longest Lasts k h r c s row (it.when_open out) it.bounds it.clears it.reverts own enabled called b (sym here) left o u at
      (it.places (out_then free longest Lasts k h r c s row (it.when_open out) it.bounds it.clears it.reverts own enabled called b)) all)
  further left (at_gate o x w at beyond here out all) =
      either left (side_of s.plan c) out here (omega (arith, all))
      (λ b. gate_tick free longest Lasts k h r c s row (it.when_open out) it.bounds it.clears it.reverts own enabled called b (sym here) left o x w at beyond all)
  further left (away_from d n was far is_side out all) =
      either left d out was.there (omega (arith, all))
      (λ b. away_tick free longest Lasts k h r c s row (it.when_open out) it.bounds it.clears it.reverts own enabled called b d was.there far left n was is_side all)
  further left (crossing_to d m way far is_side over all) = crossing_tick_to left d m way far is_side over all
  further left (crossing_home m x way over e ahead all) = crossing_tick_home left m x way over e ahead all
  further left (crossing_back m way over all) = crossing_tick_back left m way over all
