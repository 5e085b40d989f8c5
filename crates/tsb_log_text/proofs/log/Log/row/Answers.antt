use Rattle.std.proofs.Common.{◌≡◌, ◌∙◌, sym, subst, ap, List}
use Rattle.tsb_log_text.specs.Logs.{Rises, row_at}
use Rattle.tsb_log_text.specs.declared.log.LogRow.{LogRow}
use Rattle.tsb_log_text.proofs.PlaceLemmas.{row-behind}
use Rattle.tsb_log_text.proofs.log.Log.row.Goals as goal

pub returns-else-place-eq0 : goal.returns-else-place-eq0
returns-else-place-eq0 c =
    let same : c.as_slice-rows.result.now ≡ c.args.self.now = c.as_slice-rows.ensures.value ∙ c.self.view_is in
    let P : List LogRow → Type 0 = λ rows. Rises 0 rows in
    let rising : Rises 0 c.as_slice-rows.result.now = subst P (sym c.as_slice-rows.ensures.value) c.self.invariant in
    row-behind c.as_slice-rows.result.now c.args.tick c.place_near.result rising c.place_near.ensures c.if-place-eq0.false ∙ ap (λ (rows : List LogRow). row_at rows c.args.tick) same
