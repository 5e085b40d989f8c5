use Rattle.std.proofs.Common.{◌≡◌, List, Option, Some, arith, inl, inr, length, subst, sym}
use Rattle.tsb_event_text.specs.declared.times.Moment.{Moment}
use Rattle.tsb_field_diagram.specs.declared.ends.GreenEnd.{GreenEnd}
use Rattle.tsb_field.specs.Ends.{Drawn, IsDiagram, PicturedBeside, form_asked}
use Rattle.tsb_field.proofs.EndLemmas.{has-none, no-ends}
use Rattle.tsb_field.proofs.diagram_run.write_beside.Goals as goal

pub returns-then-is_empty : goal.returns-then-is_empty
returns-then-is_empty g c =
    let none : length c.in-Ok.ends.items ≡ 0 = grind (arith, c.is_empty.ensures, c.if-is_empty.true) in
    rw (c.in-Some.is, c.in-Some-from.is) (inl (
      c.tell.ensures.line.0,
      inr (inl (has-none c.in-Ok.ends.items c.in-Some-from.from (g.F.Files.bytes c.args.files.now c.in-Some.path.now) none c.in-Ok.ensures, c.tell.ensures.status, c.tell.ensures.line.1)),
    ))

pub returns-else-is_empty : goal.returns-else-is_empty
returns-else-is_empty g c =
    let form = form_asked c.args.asked.now in
    let ended = subst (λ (greens : List GreenEnd). Drawn c.args.asked.now.is_wide (IsDiagram form greens) c.write_with-in-Ok.result c.args.rows.now c.args.streams.now c.write_with-in-Ok.new.streams)
    c.deref.ensures.value c.write_with-in-Ok.ensures in
    rw c.in-Some.is (subst (λ (from : Option Moment). PicturedBeside c.args.asked.now.is_wide (Some c.in-Some.path.now) from c.write_with-in-Ok.result form c.args.rows.now (g.F.Files.bytes c.args.files.now)
    c.args.streams.now c.write_with-in-Ok.new.streams) (sym c.in-Some-from.is) (inr (c.in-Ok.ends.items, c.in-Ok.ensures, ended)))

pub returns-in-Err : goal.returns-in-Err
returns-in-Err g c =
    rw (c.in-Some.is, c.in-Some-from.is) (inl (
      c.refuse_ends.ensures.0,
      no-ends c.in-Err.fault c.in-Some-from.from c.in-Some.path.now (g.F.Files.bytes c.args.files.now) c.refuse_ends.result c.args.streams.now.errors
          c.refuse_ends.new.streams.errors c.in-Err.ensures c.refuse_ends.ensures.1,
    ))
