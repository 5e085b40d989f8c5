use Rattle.std.proofs.Common.{inl}
use Rattle.tsb_field.proofs.EndLemmas.{stops, told-on}
use Rattle.tsb_field.proofs.events_run.write_events.Goals as goal

pub returns-in-Ok : goal.returns-in-Ok
returns-in-Ok g c =
    told-on c.args.asked.now.is_wide c.write_events_of.result c.args.asked.now.from c.args.asked.now.device.now c.in-Ok.rows (g.F.Files.bytes c.args.files.now) _ c.args.streams.now c.write_events_of.new.streams c.in-Ok.ensures c.write_events_of.ensures

pub returns-in-Err : goal.returns-in-Err
returns-in-Err g c =
    inl (
      c.refuse.ensures.0,
      stops c.in-Err.fault _ _ c.name_of.result.now c.refuse.result c.args.streams.now.errors c.refuse.new.self.errors c.name_of.ensures c.in-Err.ensures c.refuse.ensures.1,
    )
