use Rattle.std.proofs.Common.{◌≡◌, ◌∙◌, ◌∷◌, ◌<◌, ◌≤◌, ◌^◌, [], ℕ, List, Some, arith, rules, sym}
use Rattle.tsb_log_text.specs.RowLists.{ends_of_item, parts}
use Rattle.tsb_log_text.proofs.SpelledLemmas.{all-few, all-spelled, ends-rise, item-taken, same-left}
use Rattle.tsb_log_text.proofs.list_text.list_in.Goals as goal

pub returns-in_default-clause-read : goal.returns-in_default-clause-read
returns-in_default-clause-read c =
    let item : List ℕ = c.cut_at.result.0.now in
    let cut : parts 44 c.loop-first.rest.now ≡ item ∷ [] = rw c.in_default.is at c.cut_at.ensures.parts in
    let ends : ends_of_item (parts 45 item) ≡ Some (c.in_ok-first.first, c.in_ok-first.end) = sym c.ends_of.ensures ∙ c.in_ok-first.was in
    let rises : c.in_ok-first.first ≤ c.in_ok-first.end = ends-rise (parts 45 item) _ _ ends in
    let fits : c.list.result < 2 ^ 64 = search rules in
    sym (all-spelled c.args.most c.in_ok-first.end c.list.result c.args.list.now c.with_run-on.result (omega arith) fits c.list.ensures
    (item-taken c.args.most c.loop-first.last c.in_ok-first.first c.in_ok-first.end c.args.list.now item [] c.loop-first.on c.with_run-on.result
    ends (omega arith) rises (omega arith) c.with_run-on.ensures
    (same-left c.args.most c.loop-first.last c.args.list.now c.loop-first.on _ _ cut c.loop-first.invariant)))

pub returns-in_default-clause-few : goal.returns-in_default-clause-few
returns-in_default-clause-few c =
    let item : List ℕ = c.cut_at.result.0.now in
    let cut : parts 44 c.loop-first.rest.now ≡ item ∷ [] = rw c.in_default.is at c.cut_at.ensures.parts in
    let ends : ends_of_item (parts 45 item) ≡ Some (c.in_ok-first.first, c.in_ok-first.end) = sym c.ends_of.ensures ∙ c.in_ok-first.was in
    let rises : c.in_ok-first.first ≤ c.in_ok-first.end = ends-rise (parts 45 item) _ _ ends in
    let fits : c.list.result < 2 ^ 64 = search rules in
    all-few c.args.most c.in_ok-first.end c.list.result c.args.list.now c.with_run-on.result (omega arith) fits c.list.ensures
    (item-taken c.args.most c.loop-first.last c.in_ok-first.first c.in_ok-first.end c.args.list.now item [] c.loop-first.on c.with_run-on.result
    ends (omega arith) rises (omega arith) c.with_run-on.ensures
    (same-left c.args.most c.loop-first.last c.args.list.now c.loop-first.on _ _ cut c.loop-first.invariant))

pub loop-first-preserved : goal.loop-first-preserved
loop-first-preserved c =
    let item : List ℕ = c.cut_at.result.0.now in
    let cut : parts 44 c.loop-first.rest.now ≡ item ∷ parts 44 c.in-Some.more.now = rw c.in-Some.is at c.cut_at.ensures.parts in
    let ends : ends_of_item (parts 45 item) ≡ Some (c.in_ok-first.first, c.in_ok-first.end) = sym c.ends_of.ensures ∙ c.in_ok-first.was in
    let rises : c.in_ok-first.first ≤ c.in_ok-first.end = ends-rise (parts 45 item) _ _ ends in
    item-taken c.args.most c.loop-first.last c.in_ok-first.first c.in_ok-first.end c.args.list.now item (parts 44 c.in-Some.more.now) c.loop-first.on c.with_run-on.result
    ends (omega arith) rises (omega arith) c.with_run-on.ensures
    (same-left c.args.most c.loop-first.last c.args.list.now c.loop-first.on _ _ cut c.loop-first.invariant)
