use Rattle.std.proofs.Common.{◌*◌, ◌≤◌, arith}
use Rattle.std.proofs.lemmas.Nat.{mul-le}
use Rattle.tsb_coord.proofs.correction.lost.Goals as goal

pub overflow_mul-result : goal.overflow_mul-result
overflow_mul-result c =
    let most : c.args.ticks * c.args.limit ≤ 6000000 * 50 = mul-le c.args.ticks c.args.limit 6000000 50 c.requires.ticks c.requires.limit in
    omega arith
