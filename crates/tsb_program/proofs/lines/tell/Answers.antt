use Rattle.tsb_lines.specs.Seen.{seen}
use Rattle.tsb_program.proofs.TellLemmas.{line-told}
use Rattle.tsb_program.proofs.lines.tell.Goals as goal

pub returns-clause-line : goal.returns-clause-line
returns-clause-line g c =
    line-told c.write_line.result (seen g.E.Write.contents c.args.errors.now) (seen g.E.Write.contents c.write_line.new.writer) c.args.line.now c.write_line.ensures.front c.write_line.ensures.whole c.write_line.ensures.blame
