use Rattle.tsb_bench.proofs.RoomLemmas.{room-lasts}
use Rattle.tsb_bench.proofs.room_laws.room_lasts.Goals as goal

pub returns : goal.returns
returns c = room-lasts
