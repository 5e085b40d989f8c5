use Rattle.tsb_program.proofs.ReadLemmas.{failed-read}
use Rattle.tsb_program.proofs.files.read_file.Goals as goal

pub returns-in-Ok-clause-blame : goal.returns-in-Ok-clause-blame
returns-in-Ok-clause-blame g c =
    failed-read (g.F.Files.may_open c.args.files.now c.args.path.now) c.in-Ok.reader c.read_opened.new.file.inner c.read_opened.result c.in-Ok.ensures.opened c.read_opened.ensures.blame
