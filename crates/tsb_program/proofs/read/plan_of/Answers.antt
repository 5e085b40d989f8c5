use Rattle.std.specs.Prelude.{vec_items}
use Rattle.tsb_program.proofs.ReadLemmas.{plan-blames, plan-came}
use Rattle.tsb_program.proofs.read.plan_of.Goals as goal

pub returns-clause-read : goal.returns-clause-read
returns-clause-read g c = plan-came vec_items c.read_file.result c.plan_in.result _ c.read_file.ensures.bytes c.plan_in.ensures

pub returns-clause-blame : goal.returns-clause-blame
returns-clause-blame g c = plan-blames (g.F.Files.may_open c.args.files.now c.args.path.now) vec_items c.read_file.result c.plan_in.result c.read_file.ensures.blame c.plan_in.ensures
