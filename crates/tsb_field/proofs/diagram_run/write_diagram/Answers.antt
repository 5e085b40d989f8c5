use Rattle.std.proofs.Common.{inl}
use Rattle.tsb_field.proofs.EndLemmas.{stops}
use Rattle.tsb_field.proofs.diagram_run.write_diagram.Goals as goal

pub returns-in-Err : goal.returns-in-Err
returns-in-Err g c =
    inl (
      c.refuse.ensures.0,
      stops c.in-Err.fault _ _ c.name_of.result.now c.refuse.result c.args.streams.now.errors c.refuse.new.self.errors c.name_of.ensures c.in-Err.ensures c.refuse.ensures.1,
    )
