-- The calls look at nothing but phases and detectors: two that agree on these give the same.
use Rattle.std.proofs.Common.{◌≡◌, ℕ, ◌≤◌, ◌==◌, Bool, not, ◌&&◌, refl, ap, arith}
use Rattle.tsb_objects.specs.tsb_types.Clip.{Agree}
use Rattle.tsb_objects.specs.tsb_plan.Plan.{Plan, is_concurrent}
use Rattle.tsb_calls.specs.Memories.{Memories, Given, calls, calls_walk, has_output, actuations, has_button, vehicle_memory, pedestrian_memory, counted}
use Rattle.tsb_calls.specs.Callable.{has_pedestrian_call, is_callable_otherwise, some_is_callable_otherwise, is_callable, has_conflict}
use Rattle.tsb_calls.specs.Settled.{Done, vehicle_after, pedestrian_after, count_after, settled}
use Rattle.tsb_calls.specs.Looks as calls
use Rattle.tsb_calls.specs.Looks.{AgreeOnPhases, AreAlike, AgreeOnMoves}
use Rattle.tsb_objects.proofs.PassLemmas.{pass-same}
use Rattle.tsb_calls.proofs.CountLemmas.{count-same}

module _ (plan : Plan) (g h : Given) (alike : AgreeOnPhases plan g h) where
  output-alike : (p : ℕ) → has_output plan g p ≡ has_output plan h p
  unfolding has_output
  output-alike p =
      pass-same (λ d. calls plan d p && g.output d) (λ d. calls plan d p && h.output d) 1 plan.counts.vehicle_detectors
      (λ d from below. ap (λ (b : Bool). calls plan d p && b) (alike.output d from (omega (arith, below))))

  actuations-alike : (p : ℕ) → actuations plan g p ≡ actuations plan h p
  unfolding actuations
  actuations-alike p =
      count-same (λ d. calls plan d p && g.actuated d) (λ d. calls plan d p && h.actuated d) 1 plan.counts.vehicle_detectors
      (λ d from below. ap (λ (b : Bool). calls plan d p && b) (alike.actuated d from (omega (arith, below))))

  button-alike : (p : ℕ) → has_button plan g p ≡ has_button plan h p
  unfolding has_button
  button-alike p =
      pass-same (λ d. calls_walk plan d p && g.button d) (λ d. calls_walk plan d p && h.button d) 1 plan.counts.pedestrian_detectors
      (λ d from below. ap (λ (b : Bool). calls_walk plan d p && b) (alike.button d from (omega (arith, below))))

  -- ## What is set

  vehicle-alike : (v w : Memories) → AreAlike v w → Agree (vehicle_memory plan g v) (vehicle_memory plan h w)
  unfolding vehicle_memory
  vehicle-alike v w same p from to =
      rw (same.vehicle p from to, output-alike p, alike.interval p from to, alike.service_ended) refl

  pedestrian-alike : (v w : Memories) → AreAlike v w → Agree (pedestrian_memory plan g v) (pedestrian_memory plan h w)
  unfolding pedestrian_memory
  pedestrian-alike v w same p from to = rw (same.pedestrian p from to, button-alike p, alike.pedestrian_part p from to) refl

  count-alike : (v w : Memories) → AreAlike v w → Agree (counted plan g v) (counted plan h w)
  unfolding counted
  count-alike v w same p from to = rw (same.count p from to, actuations-alike p, alike.interval p from to) refl

  -- ## What is called, by memories that are alike

  walk-alike : (m n : Memories) → AreAlike m n → Agree (has_pedestrian_call plan g m) (has_pedestrian_call plan h n)
  walk-alike m n same p from to = rw (same.pedestrian p from to, alike.runs) refl

  otherwise-alike : (m n : Memories) → AreAlike m n → Agree (is_callable_otherwise plan g m) (is_callable_otherwise plan h n)
  otherwise-alike m n same p from to =
      rw (same.vehicle p from to, same.pedestrian p from to, output-alike p, alike.omitted p from to, alike.interval p from to, alike.runs) refl

  some-alike : (m n : Memories) → plan.phase_count ≤ 16 → AreAlike m n → some_is_callable_otherwise plan g m ≡ some_is_callable_otherwise plan h n
  some-alike m n few same =
      pass-same (is_callable_otherwise plan g m) (is_callable_otherwise plan h n) 1 plan.phase_count
      (λ p from below. otherwise-alike m n same p from (omega (arith, below, few)))

  callable-alike : (m n : Memories) → plan.phase_count ≤ 16 → AreAlike m n → Agree (is_callable plan g m) (is_callable plan h n)
  unfolding is_callable
  callable-alike m n few same p from to =
      rw (otherwise-alike m n same p from to, some-alike m n few same, alike.omitted p from to, alike.interval p from to) refl

  conflict-alike : (m n : Memories) → plan.phase_count ≤ 16 → AreAlike m n → Agree (has_conflict plan g m) (has_conflict plan h n)
  unfolding has_conflict
  conflict-alike m n few same p from to =
      pass-same (λ q. is_callable plan g m q && (not (q == p) && not (is_concurrent plan p q)))
      (λ q. is_callable plan h n q && (not (q == p) && not (is_concurrent plan p q))) 1 plan.phase_count
      (λ q low below. ap (λ (b : Bool). b && (not (q == p) && not (is_concurrent plan p q))) (callable-alike m n few same q low (omega (arith, below, few))))

-- ## What the rings leave

pub settled-alike : (d e : Done) (f k : ℕ → Bool) (m n : Memories) → AgreeOnMoves d e → Agree f k → AreAlike m n →
    AreAlike (settled d f m) (settled e k n)
settled-alike d e f k m n moved walks same = record {
  vehicle = λ p from to. vehicle p (moved.starts p from to) (moved.ends p from to) (moved.gapped p from to) (same.vehicle p from to);
  pedestrian = λ p from to. pedestrian p (moved.starts p from to) (moved.walks p from to) (walks p from to) (same.pedestrian p from to);
  count = λ p from to. count p (moved.ends p from to) (same.count p from to);
}
  where
    vehicle : (p : ℕ) → d.starts p ≡ e.starts p → d.ends p ≡ e.ends p → d.gapped p ≡ e.gapped p → m.vehicle p ≡ n.vehicle p →
        vehicle_after d m.vehicle p ≡ vehicle_after e n.vehicle p
    vehicle p a b c i = rw (a, b, c, i) refl

    pedestrian : (p : ℕ) → d.starts p ≡ e.starts p → d.walks p ≡ e.walks p → f p ≡ k p → m.pedestrian p ≡ n.pedestrian p →
        pedestrian_after d f m.pedestrian p ≡ pedestrian_after e k n.pedestrian p
    pedestrian p a b c i = rw (a, b, c, i, moved.service) refl

    count : (p : ℕ) → d.ends p ≡ e.ends p → m.count p ≡ n.count p → count_after d m.count p ≡ count_after e n.count p
    count p a b = rw (a, b) refl

pub look-alike : calls.LooksOnlyAtItsOwn
look-alike plan g h few alike = record {
  sets = λ v w same. record {
    vehicle = vehicle-alike plan g h alike v w same;
    pedestrian = pedestrian-alike plan g h alike v w same;
    count = count-alike plan g h alike v w same;
  };
  called = λ m n same. record {
    callable = callable-alike plan g h alike m n few same;
    conflict = conflict-alike plan g h alike m n few same;
    pedestrian = walk-alike plan g h alike m n same;
    output = λ p from to. output-alike plan g h alike p;
  };
  settles = settled-alike;
}
