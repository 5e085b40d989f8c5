use Rattle.std.proofs.Common.{◌∙◌}
use Rattle.tsb_event_text.specs.Fields.{fields_of}
use Rattle.tsb_event_text.proofs.FieldLemmas.{there-more}
use Rattle.tsb_event_text.proofs.fields.has_fields.Goals as goal

pub loop-behind-preserved : goal.loop-behind-preserved
loop-behind-preserved c =
    there-more c.args.mark c.loop-behind.rest.now c.in-Some.field-0-0.now (fields_of c.args.mark c.in-Some-behind.more.now) (rw (c.in-Some-behind.is) at c.in-Some.ensures.first) ∙ c.loop-behind.invariant
