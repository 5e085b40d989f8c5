use Rattle.std.proofs.Common.{◌≡◌, ◌∙◌, ◌-◌, ◌<◌, max, get_or, ℕ, List, Vec, Global, ◌++◌, ap, sym, length, take, drop, arith, append-nil}
use Rattle.tsb_field_diagram.specs.Bars.{bar_text}
use Rattle.tsb_field_diagram.proofs.BarLemmas.{bars-none, first-behind, turn-same, turn-other, turn-last}
use Rattle.tsb_field_diagram.proofs.bars.append_bars.Goals as goal
use Rattle.tsb_field_diagram.proofs.bars.append_bars.Goals.{then-not-is_same+in_ok-append_bar, else-not-is_same}

abbrev behind : {A : Type 0} → List A → List A
behind xs = take (length xs - 1) (drop 1 xs)

pub returns-then-is_empty : goal.returns-then-is_empty
returns-then-is_empty g c =
    let none : length c.args.items.now ≡ 0 = grind (arith, c.is_empty.ensures, c.if-is_empty.true) in
    sym (ap (λ (ts : List ℕ). c.args.text.now.items ++ ts) (bars-none c.args.place g.T.InForce.tick_of (g.T.InForce.mark_of c.args.band) c.args.first c.args.end c.args.items.now none)
    ∙ append-nil c.args.text.now.items)

pub loop-item-preserved : goal.loop-item-preserved
loop-item-preserved g c =
    let tick = g.T.InForce.tick_of in let shown = g.T.InForce.mark_of c.args.band in
    let xs = behind c.args.items.now in let index = c.loop-item.item-index in let item = c.item-item.result in
    let at : tick item ≡ tick (get_or xs index item) = ap tick c.item-item.is in
    let next : c.mark-next.result ≡ shown (get_or xs index item) = c.mark-next.ensures ∙ ap shown c.item-item.is in
    elim c.if-not-is_same.branch [
      | then-not-is_same+in_ok-append_bar w ↦
          turn-other c.args.place tick shown c.args.end xs index item c.loop-item-test.true
          c.loop-item.begin _ c.loop-item.now _ c.mark-next.result c.loop-item.text.items _ _ c.is_same.result
          next c.is_same.ensures w.if-not-is_same.true
          (ap (λ (v : Vec ℕ Global). v.items) w.text-is ∙ w.in_ok-append_bar.ensures
          ∙ ap (λ (t : ℕ). c.loop-item.text.items ++ bar_text c.args.place c.loop-item.begin t c.loop-item.now)
          (w.from-then-not-is_same.ensures ∙ w.tick-then-not-is_same.ensures ∙ at))
          (w.begin-is ∙ w.from-begin.ensures ∙ w.tick-then-not-is_same-2.ensures ∙ at) w.now-is c.loop-item.invariant
      | else-not-is_same w ↦
          turn-same c.args.place tick shown c.args.end xs index item c.loop-item-test.true
          c.loop-item.begin _ c.loop-item.now _ c.mark-next.result c.loop-item.text.items _ _ c.is_same.result
          next c.is_same.ensures w.if-not-is_same.false (ap (λ (v : Vec ℕ Global). v.items) w.text-is) w.begin-is w.now-is c.loop-item.invariant
    ]

pub returns : goal.returns
returns g c =
    let tick = g.T.InForce.tick_of in let shown = g.T.InForce.mark_of c.args.band in
    let items = c.args.items.now in let earliest = c.index-items-0.result in
    let some : 0 < length items = grind (arith, c.is_empty.ensures, c.if-is_empty.false) in
    let begun : c.max-begin.result ≡ max c.args.first (tick earliest) =
    c.max-begin.ensures ∙ ap (λ (n : ℕ). max c.args.first n) (c.from.ensures ∙ c.tick.ensures) in
    turn-last c.args.place tick shown c.args.first c.args.end items (behind items) c.loop-item.item-index earliest c.loop-item-test.false
    c.loop-item.begin c.max-begin.result c.loop-item.now c.mark-now.result c.loop-item.text.items _ c.args.text.now.items
    (first-behind items earliest earliest some c.index-items-0.is) begun c.mark-now.ensures
    c.loop-item.invariant c.in_ok-append_bar-2.ensures
