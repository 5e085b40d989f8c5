use Rattle.std.proofs.Common.{◌≡◌, ◌+◌, ◌*◌, ◌<◌, ◌∙◌, length, slice_index, refl, arith, sym, ap}
use Rattle.indexmap.specs.IndexMap.{keys}
use Rattle.indexmap.proofs.CallerLemmas.{index_map_len-with_value_at}
use Rattle.tsb_cells.specs.Bank.{cells_of}
use Rattle.tsb_transact.proofs.PairLemmas.{pairs-zero, front-next, same-place}
use Rattle.tsb_transact.proofs.edit_cells.mend_front.Goals as goal

pub loop-i-init : goal.loop-i-init
loop-i-init c = record { same = sym (pairs-zero (cells_of c.args.bank.now)); len = refl; room = refl }

pub loop-i-preserved : goal.loop-i-preserved
loop-i-preserved c =
    let row = cells_of c.args.bank.now in
    let i = c.loop-i.i in
    let below : i < length c.loop-i.edits.entries = omega (arith, c.loop-i-test.true, c.min-most.ensures, c.len.ensures.len, c.loop-i.invariant.len) in
    let here : slice_index (keys c.loop-i.edits) i ≡ slice_index row (2 * (i + 1) + 2) =
    same-place _ _ c.if-not-has_place.ensures ∙ c.get-in-loop-i.ensures ∙ ap (slice_index row) c.place_cell.ensures in
    record {
      same = front-next c.loop-i.edits.entries row i c.get-in-loop-i-2.result below c.loop-i.invariant.same here (c.get-in-loop-i-2.ensures ∙ ap (slice_index row) c.value_cell.ensures);
      len = index_map_len-with_value_at c.loop-i.edits i c.get-in-loop-i-2.result ∙ c.loop-i.invariant.len;
      room = c.loop-i.invariant.room;
    }
