use Rattle.std.proofs.Common.{◌≡◌, ◌+◌, ◌-◌, ◌∙◌, Some, None, arith, decimal, refl, sym, true, false}
use Rattle.tsb_types.specs.declared.limits.TheConstants.{VEHICLE_DETECTORS}
use Rattle.tsb_types.specs.Sets.{has_detector}
use Rattle.tsb_status_text.specs.Json.{numbers, number_in}
use Rattle.tsb_status_text.proofs.ListLemmas.{step-begin, step-over, step-on, step-end}
use Rattle.tsb_status_text.proofs.line.push_detector_numbers.Goals.{then-contains, else-contains}
use Rattle.tsb_status_text.proofs.line.push_detector_numbers.Goals as goal

pub loop-k-init : goal.loop-k-init
unfolding numbers
loop-k-init c =
    step-begin (number_in (has_detector c.args.set)) 1 1 VEHICLE_DETECTORS (VEHICLE_DETECTORS - 0) 91 93 c.args.line.now c.push.new.self (omega arith) (omega arith) c.push.ensures.line.line

pub loop-k-preserved : goal.loop-k-preserved
loop-k-preserved c =
    let set = has_detector c.args.set in
    let k = c.loop-k.k in
    elim c.if-contains.branch [
      | then-contains w ↦
          let has : set (k + 1) ≡ true = sym c.contains.ensures ∙ w.if-contains.true in
          let is : number_in set (k + 1) ≡ Some (decimal (k + 1)) = rw has refl in
          rw (w.line-is, w.first-is)
          (step-on (number_in set) c.loop-k.first (k + 1) (k + 1 + 1) (VEHICLE_DETECTORS - k) (VEHICLE_DETECTORS - (k + 1)) 93 (decimal (k + 1)) c.loop-k.line _ _ _
          (omega arith) (omega arith) is w.separate.ensures w.push_byte.ensures.line c.loop-k.invariant)
      | else-contains w ↦
          let has : set (k + 1) ≡ false = sym c.contains.ensures ∙ w.if-contains.false in
          let is : number_in set (k + 1) ≡ None = rw has refl in
          rw (w.line-is, w.first-is)
          (step-over (number_in set) c.loop-k.first (k + 1) (k + 1 + 1) (VEHICLE_DETECTORS - k) (VEHICLE_DETECTORS - (k + 1)) 93 c.loop-k.line _
          (omega arith) (omega arith) is c.loop-k.invariant)
    ]

pub returns : goal.returns
returns c = record {
  line = record {
    line =
        step-end (number_in (has_detector c.args.set)) c.loop-k.first (c.loop-k.k + 1) (VEHICLE_DETECTORS - c.loop-k.k) 93 c.loop-k.line c.push-2.new.self _
        (omega arith) c.push-2.ensures.line.line c.loop-k.invariant;
  };
  short = omega arith;
}
