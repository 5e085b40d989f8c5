use Rattle.tsb.proofs.ReadLemmas.{checks}
use Rattle.tsb.proofs.run.check.Goals as goal

pub returns : goal.returns
returns g c = (
  c.report.ensures.0,
  checks c.plan_of.result c.args.path.now (g.F.Files.bytes c.args.files.now c.args.path.now) c.report.result c.args.streams.now.output c.report.new.streams.output
      c.args.streams.now.errors c.report.new.streams.errors c.plan_of.ensures.read c.report.ensures.1,
)
