use Rattle.std.proofs.Common.{◌∙◌, refl, arith, ap, ℕ, List, length}
use Rattle.tsb_types.specs.Sets.{has_detector}
use Rattle.tsb_types.proofs.NumberLemmas.{few-detectors, detectors-least}
use Rattle.tsb_types.proofs.EventLemmas.{tell_detectors-next, tell_detectors-end}
use Rattle.tsb_types.proofs.event.tell_detectors.Goals as goal

pub loop-number-init : goal.loop-number-init
loop-number-init g c = record { told = refl; room = omega (arith, few-detectors (has_detector c.args.detectors)) }

pub push-requires : goal.push-requires
push-requires g c =
    let found = c.in-Some.ensures in
    let least = detectors-least (has_detector c.loop-number.rest) (has_detector c.with-rest.result) c.in-Some.number found.from_one found.within
    found.had c.with-rest.ensures.set found.least c.with-rest.ensures.others in
    let more = ap (λ (ns : List ℕ). length ns) least in
    (omega arith, omega (arith, more, c.loop-number.invariant.room, c.requires))

pub loop-number-preserved : goal.loop-number-preserved
loop-number-preserved g c =
    let found = c.in-Some.ensures in
    let held = c.loop-number.invariant in
    let least = detectors-least (has_detector c.loop-number.rest) (has_detector c.with-rest.result) c.in-Some.number found.from_one found.within
    found.had c.with-rest.ensures.set found.least c.with-rest.ensures.others in
    let more = ap (λ (ns : List ℕ). length ns) least in
    record {
      told = tell_detectors-next _ _ _ _ _ _ _ least c.push.ensures.items ∙ held.told;
      room = omega (arith, more, held.room, c.push.ensures.len);
    }

pub returns-clause-told : goal.returns-clause-told
returns-clause-told g c = tell_detectors-end _ _ _ _ _ (c.first.ensures.none c.in_default.is) c.loop-number.invariant.told
