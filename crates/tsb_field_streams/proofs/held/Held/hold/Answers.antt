use Rattle.std.proofs.Common.{◌∙◌}
use Rattle.tsb_field_streams.proofs.PlaceLemmas.{inserted, placed-at}
use Rattle.tsb_field_streams.proofs.held.Held.hold.Goals as goal

pub returns-clause-rows : goal.returns-clause-rows
returns-clause-rows c =
    let rows = c.args.self.now.rows in
    inserted c.insert.result rows.items c.insert.new.self.items c.args.row c.place_of-place.result rows.len c.args.self.now.most rows.cap rows.ok.0 c.requires c.args.self.now.room
    c.insert.ensures.items c.insert.ensures.full
    ∙ placed-at c.args.row rows.items c.place_of-place.result c.place_of-place.ensures.bound c.place_of-place.ensures.below c.place_of-place.ensures.above
