use Rattle.std.proofs.Common.{◌∙◌, List, ap, subst, sym}
use Rattle.tsb_history.specs.History.{Change}
use Rattle.tsb_controller.specs.Whole.{All, all_in}
use Rattle.tsb_bench.specs.Cabinet.{rows_of}
use Rattle.tsb_bench.specs.Held.{whole, HasSoundPast}
use Rattle.tsb_bench.proofs.bench.Bench.clone_in.Goals as goal

pub invariant_of-result : goal.invariant_of-result
invariant_of-result c = (
  c.in-Ok-clone_in.ensures.shut,
  subst (λ (a : All). HasSoundPast c.self.inside.tick a c.in-Ok.history.records) (sym c.in-Ok-clone_in.ensures.rows)
      (subst (λ (rs : List Change). HasSoundPast c.self.inside.tick (rows_of c.self.inside.cabinet) rs) (sym c.in-Ok.ensures) c.self.invariant.1),
  c.in-Ok-clone_in.ensures.passing c.self.inside.tick,
  tt,
)

pub returns : goal.returns
returns c =
    (λ i. record {
      state = ap (λ (a : All). all_in c.self.inside.tick a) c.in-Ok-clone_in.ensures.rows i;
      records = c.in-Ok.ensures i;
    })
    ∙ ap whole c.self.view_is
