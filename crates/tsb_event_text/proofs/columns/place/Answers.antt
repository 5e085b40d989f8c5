use Rattle.std.proofs.Common.{◌<◌, sym, arith, length, ◌∙◌}
use Rattle.std.specs.Prelude.{option_map}
use Rattle.tsb_event_text.specs.Fields.{fields_of}
use Rattle.tsb_event_text.proofs.FieldLemmas.{seeks-none, seeks-here, seeks-past, seeks-more}
use Rattle.tsb_event_text.proofs.columns.place.Goals as goal

pub returns-in_err-field : goal.returns-in_err-field
returns-in_err-field c fields are = rw c.from_residual.ensures (seeks-none c.args.mark c.args.column fields c.loop-field.rest.now c.loop-field.place (c.loop-field.invariant.seeks fields are) c.in_err-field.ensures.first)

pub returns-then-names_column : goal.returns-then-names_column
returns-then-names_column c fields are =
    seeks-here c.args.mark c.args.column fields c.loop-field.rest.now c.in_ok-field.field.now (option_map (λ rest. fields_of c.args.mark rest.now) c.in_ok-field.behind) c.loop-field.place (c.loop-field.invariant.seeks fields are)
    c.in_ok-field.ensures.first (sym c.names_column.ensures ∙ c.if-names_column.true)

pub returns-in_err-rest : goal.returns-in_err-rest
returns-in_err-rest c fields are =
    rw c.from_residual-in_err-rest.ensures (seeks-past c.args.mark c.args.column fields c.loop-field.rest.now c.in_ok-field.field.now c.loop-field.place (c.loop-field.invariant.seeks fields are)
    (rw c.in_err-rest.was at c.in_ok-field.ensures.first) (sym c.names_column.ensures ∙ c.if-names_column.false))

pub loop-field-preserved : goal.loop-field-preserved
loop-field-preserved c =
    let less : length c.in_ok-rest.rest.now < length c.loop-field.rest.now = rw c.in_ok-rest.was at c.in_ok-field.ensures.less in record {
      seeks = λ fields are.
          seeks-more c.args.mark c.args.column fields c.loop-field.rest.now c.in_ok-field.field.now c.in_ok-rest.rest.now c.loop-field.place (c.loop-field.invariant.seeks fields are)
          (rw c.in_ok-rest.was at c.in_ok-field.ensures.first) (sym c.names_column.ensures ∙ c.if-names_column.false);
      few = omega (arith, less);
    }
