use Rattle.std.proofs.Common.{◌++◌, refl}
use Rattle.tsb_lines.specs.Seen.{seen}
use Rattle.tsb_program.proofs.TellLemmas.{line-told}
use Rattle.tsb_program.proofs.streams.Streams.tell_both.Goals as goal

pub returns-clause-lines : goal.returns-clause-lines
returns-clause-lines g c =
    rw (← c.self.view_is) (
      (refl, refl),
      line-told c.write_both.result (seen g.E.Write.contents c.self.inside.errors) (seen g.E.Write.contents c.write_both.new.writer) (c.args.first.now ++ c.args.second.now)
          c.write_both.ensures.front c.write_both.ensures.whole c.write_both.ensures.blame,
    )
