use Rattle.std.proofs.Common.{◌∙◌, ◌||◌, Bool, ap, ap₂, sym}
use Rattle.std.proofs.Math.Bool.{or_assoc}
use Rattle.tsb_objects.specs.tsb_types.Sets.{has}
use Rattle.tsb_overlap.proofs.SeenLemmas.{serves}
use Rattle.tsb_overlap.proofs.surroundings.Surroundings.is_turning.Goals as goal

pub returns : goal.returns
returns c = λ now omitted lights.
    or_assoc c.contains.result c.is_phase.result c.is_phase-2.result
    ∙ ap₂ (λ (a b : Bool). a || b)
    (c.contains.ensures ∙ c.union-served.ensures c.args.phase ∙ ap (λ (a : Bool). a || has c.args.self.now.intervals.red_clear c.args.phase) (c.union.ensures c.args.phase)
    ∙ sym (serves (has c.args.self.now.intervals.green c.args.phase) (has c.args.self.now.intervals.yellow c.args.phase) (has c.args.self.now.intervals.red_clear c.args.phase)))
    (ap₂ (λ (a b : Bool). a || b) c.is_phase.ensures c.is_phase-2.ensures)
