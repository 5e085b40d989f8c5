use Rattle.std.proofs.Common.{◌≡◌, ◌∙◌, ◌&&◌, not, ap}
use Rattle.tsb_types.specs.Sets.{has}
use Rattle.tsb_step.specs.Events.{times_red}
use Rattle.tsb_step.specs.Quiet.{waited}
use Rattle.tsb_step.specs.State.{State}
use Rattle.tsb_controller.specs.Whole.{all_in}
use Rattle.tsb_controller.proofs.WaitLemmas.{rows-wait}
use Rattle.tsb_bench.specs.Cabinet.{rows_of}
use Rattle.tsb_bench.proofs.cabinet.Cabinet.cleared.Goals as goal

-- with timers run on by a tick, the rows are those of the next tick number
pub returns : goal.returns
returns c p from to = c.difference.ensures p ∙ (λ i. c.red_timings.ensures p from to i && not (later i))
  where
    later : has c.red_timings-2.result p ≡ times_red (waited (all_in c.args.tick (rows_of c.args.self.now))) p
    later = c.red_timings-2.ensures p from to ∙ ap (λ (s : State). times_red s p) (rows-wait c.args.tick (rows_of c.args.self.now) c.requires.by)
