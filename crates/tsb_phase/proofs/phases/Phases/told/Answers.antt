use Rattle.std.proofs.Common.{refl}
use Rattle.tsb_phase.specs.Layer.{cells_of}
use Rattle.tsb_phase.proofs.ToldPhaseLemmas.{phase-told}
use Rattle.tsb_phase.proofs.phases.Phases.told.Goals as goal

pub returns : goal.returns
returns c =
    phase-told c.args.now (cells_of c.args.self.now) c.args.p c.load-was.result _ c.known.ensures.from c.known.ensures.within c.load-was.ensures
    record {
      interval = c.interval_of.ensures;
      timer = c.at.ensures;
      pedestrian = c.pedestrian_of.ensures;
      pedestrian_timer = c.at-2.ensures;
      passage = c.at-3.ensures;
      conflict = c.at-4.ensures;
      reduction = c.at-5.ensures;
      gapped = refl;
      forced = refl;
      red_revert = c.at-6.ensures;
      running_maximum = c.number_in.ensures;
    }
