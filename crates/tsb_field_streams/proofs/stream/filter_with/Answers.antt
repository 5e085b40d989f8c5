use Rattle.std.proofs.Common.{◌∙◌, option_map, refl}
use Rattle.tsb_field_streams.specs.Standing.{given_of}
use Rattle.tsb_field_streams.proofs.stream.filter_with.Goals as goal

pub returns-in-Ok : goal.returns-in-Ok
returns-in-Ok c =
    c.new-in-Ok.ensures (given_of c.args.reading (option_map (λ d. d.now) c.args.device) c.args.wires.now) (record { from = refl; times = refl; zone = refl; window = refl }) refl refl
    c.requires.none c.requires.taken c.in-Ok.ensures.empty (c.in-Ok.ensures.most ∙ c.most_held.ensures)
