use Rattle.std.proofs.Common.{ℕ, List, subst}
use Rattle.tsb_field.specs.GreenEnds.{EndsIn}
use Rattle.tsb_field.proofs.EndLemmas.{ends-came}
use Rattle.tsb_field.proofs.ends_run.ends_of.Goals as goal

pub returns-in-Ok : goal.returns-in-Ok
returns-in-Ok g c =
    ends-came c.ends_in.result c.args.from _ c.in-Ok.text.items c.in-Ok.ensures.bytes
    (subst (λ (text : List ℕ). EndsIn c.ends_in.result c.args.from text) c.deref.ensures.value c.ends_in.ensures)
