use Rattle.std.specs.Prelude.{vec_items}
use Rattle.tsb_program.proofs.ReadLemmas.{log-blames, log-came}
use Rattle.tsb_program.proofs.read.log_of.Goals as goal

pub returns-clause-read : goal.returns-clause-read
returns-clause-read g c = log-came vec_items c.read_file.result c.log_in.result _ c.read_file.ensures.bytes c.log_in.ensures

pub returns-clause-blame : goal.returns-clause-blame
returns-clause-blame g c = log-blames (g.F.Files.may_open c.args.files.now c.args.path.now) vec_items c.read_file.result c.log_in.result c.read_file.ensures.blame c.log_in.ensures
