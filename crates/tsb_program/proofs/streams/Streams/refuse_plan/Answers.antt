use Rattle.std.proofs.Common.{◌∙◌, ◌++◌, List, ℕ, ap, inl, subst}
use Rattle.tsb_lines.specs.Seen.{Seen, Tells}
use Rattle.tsb_program.specs.Lines.{plan_line}
use Rattle.tsb_program.proofs.TellLemmas.{refused-so}
use Rattle.tsb_program.proofs.streams.Streams.refuse_plan.Goals as goal

pub returns-in-Ok : goal.returns-in-Ok
returns-in-Ok g c =
    let old : Seen = c.args.self.now.errors in
    let new : Seen = c.tell_both.new.self.errors in (
      c.tell_both.ensures.lines.0,
      refused-so c.args.fault c.args.path.now c.in-Refused.why c.tell_both.result old new c.in-Refused.is (inl (
        c.tell_both.ensures.status,
        subst (λ (line : List ℕ). Tells old new (plan_line c.in-Refused.why ++ line)) (c.as_bytes-in-Ok.ensures.bytes ∙ c.plan_clue_line-second.ensures)
            (subst (λ (line : List ℕ). Tells old new (line ++ c.as_bytes-in-Ok.result.now)) (c.as_bytes.ensures.value ∙ c.in-Ok.ensures ∙ ap plan_line c.line.ensures) c.tell_both.ensures.lines.1),
      )),
    )
