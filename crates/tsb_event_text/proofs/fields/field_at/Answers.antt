use Rattle.std.specs.Prelude.{option_map}
use Rattle.tsb_event_text.specs.Fields.{fields_of}
use Rattle.tsb_event_text.proofs.FieldLemmas.{reaches-none, reaches-here, reaches-past, reaches-more}
use Rattle.tsb_event_text.proofs.fields.field_at.Goals as goal

pub returns-in_err-field : goal.returns-in_err-field
returns-in_err-field c fields are = rw c.from_residual.ensures (reaches-none c.args.mark fields c.args.place c.loop-field.rest.now c.loop-field.left (c.loop-field.invariant fields are) c.in_err-field.ensures.first)

pub returns-then-left-eq0 : goal.returns-then-left-eq0
returns-then-left-eq0 c fields are =
    reaches-here c.args.mark fields c.args.place c.loop-field.rest.now c.in_ok-field.field.now c.loop-field.left (option_map (λ rest. fields_of c.args.mark rest.now) c.in_ok-field.behind) (c.loop-field.invariant fields are)
    c.in_ok-field.ensures.first c.if-left-eq0.true

pub returns-in_err-rest : goal.returns-in_err-rest
returns-in_err-rest c fields are =
    rw c.from_residual-in_err-rest.ensures (reaches-past c.args.mark fields c.args.place c.loop-field.rest.now c.in_ok-field.field.now c.loop-field.left (c.loop-field.invariant fields are)
    (rw c.in_err-rest.was at c.in_ok-field.ensures.first) c.if-left-eq0.false)

pub loop-field-preserved : goal.loop-field-preserved
loop-field-preserved c fields are =
    reaches-more c.args.mark fields c.args.place c.loop-field.rest.now c.in_ok-field.field.now c.in_ok-rest.rest.now c.loop-field.left (c.loop-field.invariant fields are)
    (rw c.in_ok-rest.was at c.in_ok-field.ensures.first) c.if-left-eq0.false
