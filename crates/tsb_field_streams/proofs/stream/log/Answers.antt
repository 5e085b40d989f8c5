use Rattle.std.proofs.Common.{◌∙◌, List, inl, option_map, subst}
use Rattle.tsb_field_log.specs.Mapping.{wires_of}
use Rattle.tsb_field_log.specs.declared.inputs.Wire.{Wire}
use Rattle.tsb_field_streams.specs.Standing.{StandsAtStart, given_of}
use Rattle.tsb_field_streams.proofs.stream.log.Goals as goal

pub returns-in-Ok-filter_of-clause-ended : goal.returns-in-Ok-filter_of-clause-ended
returns-in-Ok-filter_of-clause-ended g c =
    inl (c.run_over.ensures.ended (given_of c.args.reading (option_map (λ d. d.now) c.args.device) (wires_of c.args.mapped.now))
    (subst (λ (wires : List Wire). StandsAtStart (given_of c.args.reading (option_map (λ d. d.now) c.args.device) wires) c.in-Ok-filter_of.filter) (c.deref.ensures.value ∙ c.in-Ok.ensures) c.in-Ok-filter_of.ensures))

pub returns-in-Ok-filter_of-clause-memory : goal.returns-in-Ok-filter_of-clause-memory
returns-in-Ok-filter_of-clause-memory g c is = absurd (c.run_over.ensures.memory is)
