use Rattle.std.proofs.Common.{◌≡◌, ℕ, ◌+◌, ◌-◌, ◌*◌, ◌%◌, ◌<◌, ◌&&◌, ◌||◌, Bool, false, [], get_or, arith, sym, ◌∙◌, ap}
use Rattle.tsb_types.specs.declared.limits.TheConstants.{VEHICLE_DETECTORS}
use Rattle.tsb_types.specs.Lists.{some_passes, run_from}
use Rattle.tsb_types.specs.Sets.{names, has, has_detector}
use Rattle.tsb_types.proofs.SetLemmas.{names-zero}
use Rattle.tsb_objects.proofs.UnionLemmas.{names-high, wide-more, wide-end}
use Rattle.tsb_objects.proofs.unions.WideUnions.of.Goals as goal

pub loop-k-init : goal.loop-k-init
unfolding run_from
loop-k-init c = record {
  within = omega arith;
  rest = λ n from. c.list-rest.ensures n ∙ ap (has_detector c.args.detectors) (let e : n ≡ 8 * 0 + n = omega arith in e);
  told = λ test are p from within. c.empty-phases.ensures p;
}

pub loop-k-preserved : goal.loop-k-preserved
loop-k-preserved c =
    let held = c.loop-k.invariant in
    let k : ℕ = c.loop-k.k in
    let rest : ℕ = c.loop-k.rest in
    let on : ℕ → Bool = has_detector c.args.detectors in
    record {
      within = omega arith;
      rest = λ n from.
          names-high rest n from ∙ held.rest (8 + n) (omega arith)
          ∙ ap on (let e : 8 * k + (8 + n) ≡ 8 * (k + 1) + n = omega arith in e);
      told = λ test are p from within.
          c.union-phases.ensures p
          ∙ ap (λ (b : Bool). has c.loop-k.phases p || b) (c.from_list.ensures p)
          ∙ wide-more (λ d. on d && test d p) (λ n. test (8 * k + n) p) rest k (has c.loop-k.phases p)
          (names (get_or (get_or c.args.self.now.eights k []) (rest % 256) 0) p)
          (held.told test are p from within)
          (are.each k (omega arith) (rest % 256) p (omega arith) from within)
          (λ n first below. ap (λ (b : Bool). b && test (8 * k + n) p) (held.rest n first));
    }

pub returns-then-rest-eq0 : goal.returns-then-rest-eq0
returns-then-rest-eq0 c = λ test are p from within.
    let held = c.loop-k.invariant in
    let k : ℕ = c.loop-k.k in
    let on : ℕ → Bool = has_detector c.args.detectors in
    let empty : c.loop-k.rest ≡ 0 = omega (arith, c.if-rest-eq0.true) in
    let off : (d : ℕ) → 8 * k < d → (on d && test d p) ≡ false = λ d behind.
    let place : 8 * k + (d - 8 * k) ≡ d = omega (arith, behind) in
    let none : on d ≡ false =
    ap on (sym place) ∙ sym (held.rest (d - 8 * k) (omega (arith, behind))) ∙ ap (λ (list : ℕ). names list (d - 8 * k)) empty ∙ names-zero (d - 8 * k) in
    ap (λ (b : Bool). b && test d p) none in
    wide-end (λ d. on d && test d p) k VEHICLE_DETECTORS _ (omega (arith, held.within)) (held.told test are p from within) off

pub returns : goal.returns
returns c = λ test are p from within.
    let all : 8 * c.loop-k.k ≡ VEHICLE_DETECTORS = omega (arith, c.loop-k.invariant.within) in
    c.loop-k.invariant.told test are p from within
    ∙ ap (λ (n : ℕ). some_passes (λ d. has_detector c.args.detectors d && test d p) (run_from 1 n)) all
