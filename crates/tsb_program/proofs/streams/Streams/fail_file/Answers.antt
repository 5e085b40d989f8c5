use Rattle.std.proofs.Common.{◌∙◌, ◌++◌, List, ℕ, codes, subst, rules}
use Rattle.tsb_lines.specs.Seen.{Tells}
use Rattle.tsb_program.proofs.streams.Streams.fail_file.Goals as goal

pub returns-in-Read : goal.returns-in-Read
returns-in-Read g c =
    rw c.in-Read.is (
      c.tell_both.ensures.lines.0,
      (
        c.tell_both.ensures.status,
        subst (λ (line : List ℕ). Tells c.args.self.now.errors c.tell_both.new.self.errors (codes "read fault\n" ++ line))
            (c.as_bytes.ensures.bytes ∙ c.file_line-second.ensures) c.tell_both.ensures.lines.1,
      ),
    )

pub returns-in-Memory : goal.returns-in-Memory
returns-in-Memory g c = search rules fits 100
