use Rattle.tsb_field_streams.proofs.StreamLemmas.{gave-fault}
use Rattle.tsb_field_streams.specs.declared.filter.Summary.{Summary}
use Rattle.tsb_field_streams.proofs.BlameLemmas.{blames-on, memory-on}
use Rattle.tsb_field_streams.proofs.stream.Stream.finish.Goals as goal

pub returns-in-Err-clause-finished : goal.returns-in-Err-clause-finished
returns-in-Err-clause-finished g c =
    λ given bytes begun f. gave-fault given bytes c.in-Err.fault _ _ (c.in-Err.ensures.took given bytes begun f)

pub returns-in-Ok-take_held-clause-finished : goal.returns-in-Ok-take_held-clause-finished
returns-in-Ok-take_held-clause-finished g c =
    λ given bytes begun f.
    let last = c.in-Ok.ensures.took given bytes begun f in
    c.end_log.ensures.finished given bytes begun last.0 (c.in-Ok-take_held.ensures.gave given bytes begun last.0 last.1)

pub returns-in-Err-take_held-clause-finished : goal.returns-in-Err-take_held-clause-finished
returns-in-Err-take_held-clause-finished g c =
    λ given bytes begun f.
    let last = c.in-Ok.ensures.took given bytes begun f in
    gave-fault given bytes c.in-Err-take_held.fault _ _ (c.in-Err-take_held.ensures.gave given bytes begun last.0 last.1)

pub returns-in-Err-clause-blame : goal.returns-in-Err-clause-blame
returns-in-Err-clause-blame g c well = blames-on (Unit {0}) Summary c.in-Err.fault _ (c.in-Err.ensures.blame well)

pub returns-in-Err-clause-memory : goal.returns-in-Err-clause-memory
returns-in-Err-clause-memory g c = memory-on c.in-Err.fault c.in-Err.ensures.memory

pub returns-in-Ok-take_held-clause-blame : goal.returns-in-Ok-take_held-clause-blame
returns-in-Ok-take_held-clause-blame g c well = c.end_log.ensures.blame (c.in-Ok-take_held.ensures.blame (c.in-Ok.ensures.blame well).1).1

pub returns-in-Err-take_held-clause-blame : goal.returns-in-Err-take_held-clause-blame
returns-in-Err-take_held-clause-blame g c well = blames-on (Unit {0}) Summary c.in-Err-take_held.fault _ (c.in-Err-take_held.ensures.blame (c.in-Ok.ensures.blame well).1)

pub returns-in-Err-take_held-clause-memory : goal.returns-in-Err-take_held-clause-memory
returns-in-Err-take_held-clause-memory g c = memory-on c.in-Err-take_held.fault c.in-Err-take_held.ensures.memory
