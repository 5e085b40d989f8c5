use Rattle.std.specs.Prelude.{vec_items}
use Rattle.tsb_program.proofs.ReadLemmas.{fault-blames, plan-found}
use Rattle.tsb_program.proofs.read.plan_or_place.Goals as goal

pub returns-clause-read : goal.returns-clause-read
returns-clause-read g c = plan-found vec_items c.read_file.result c.plan_placed.result _ c.read_file.ensures.bytes c.plan_placed.ensures

pub returns-clause-blame : goal.returns-clause-blame
returns-clause-blame g c = fault-blames (g.F.Files.may_open c.args.files.now c.args.path.now) vec_items c.read_file.result c.plan_placed.result c.read_file.ensures.blame c.plan_placed.ensures
