use Rattle.std.proofs.Common.{◌≡◌, ◌≢◌, ℕ, ◌+◌, ◌%◌, Bool, true, false, not, ◌&&◌, if◌then◌else◌, refl, ap, ◌∙◌, arith}
use Rattle.tsb_objects.specs.tsb_types.Sets.{has, names}
use Rattle.tsb_objects.proofs.tsb_types.ClipLemmas.{is_phase_from}
use Rattle.tsb_calls.proofs.calls.Calls.settle.Goals as goal

not_one : (n : ℕ) → n ≡ 0 → n ≢ 1
not_one n e = omega (arith, e)

falls : (starts memory : Bool) → (memory && not starts) ≡ (if starts then false else memory)
falls true true = refl
falls true false = refl
falls false true = refl
falls false false = refl

pub returns-clause-each : goal.returns-clause-each
returns-clause-each c = λ p from within.
    let apart : 1 + p ≢ 1 = omega (arith, from) in
    let behind : 1 + p ≢ 0 = omega arith in
    record {
      vehicle =
          ap (λ (cell : ℕ). names (cell % 65536) p) (c.forget_counts.ensures.lists 0 (omega arith) ∙ c.put_phases-2.ensures.others 0 (not_one 0 refl))
          ∙ c.put_phases.ensures.told p ∙ c.difference-vehicle.ensures p
          ∙ rw (c.union-3.ensures p, c.phases.ensures p, c.difference-cut.ensures p) (falls (has c.args.decided.now.starts p) _);
      pedestrian =
          ap (λ (cell : ℕ). names (cell % 65536) p) (c.forget_counts.ensures.lists 1 (omega arith))
          ∙ c.put_phases-2.ensures.told p ∙ c.difference-pedestrian.ensures p ∙ rw (c.phases-2.ensures p, c.walks.ensures p) refl;
      count =
          rw (is_phase_from p from within) (c.forget_counts.ensures.counts p from within
          ∙ ap (λ (n : ℕ). if has c.args.decided.now.ends p then 0 else n) (c.put_phases-2.ensures.others (1 + p) apart ∙ c.put_phases.ensures.others (1 + p) behind));
    }
