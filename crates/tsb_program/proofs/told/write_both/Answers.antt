use Rattle.tsb_lines.specs.Seen.{seen}
use Rattle.tsb_program.proofs.TellLemmas.{both-whole, front-before, front-behind}
use Rattle.tsb_program.proofs.told.write_both.Goals as goal

pub returns-in-Ok-clause-whole : goal.returns-in-Ok-clause-whole
returns-in-Ok-clause-whole g c =
    both-whole c.write_line.result (seen g.W.Write.contents c.args.writer.now) (seen g.W.Write.contents c.write_text.new.self) (seen g.W.Write.contents c.write_line.new.writer)
    c.args.first.now c.args.second.now c.in-Ok.ensures.whole c.write_line.ensures.whole

pub returns-in-Ok-clause-front : goal.returns-in-Ok-clause-front
returns-in-Ok-clause-front g c = front-behind _ _ _ c.args.first.now c.args.second.now c.in-Ok.ensures.whole c.write_line.ensures.front

pub returns-in-Err-clause-front : goal.returns-in-Err-clause-front
returns-in-Err-clause-front g c = front-before _ _ c.args.first.now c.args.second.now c.write_text.ensures.front
