use Rattle.std.proofs.Common.{◌∷◌, ◌++◌, ◌∙◌, ◌<◌, [], List, ℕ, ap, length, refl, rules, sym, subst}
use Rattle.tsb_lines.specs.Lines.{kept}
use Rattle.tsb_lines.proofs.LineLemmas.{line-behind}
use Rattle.tsb_field_display.specs.declared.stream.TheConstants.{KEPT}
use Rattle.tsb_field_display.specs.Stream.{Stand, StandsAt, with_bytes}
use Rattle.tsb_field_display.proofs.StreamLemmas.{bytes-behind, piece-held}
use Rattle.tsb_field_display.proofs.stream.DisplayStream.feed_all.Goals as goal

pub loop-rest-init : goal.loop-rest-init
loop-rest-init c = ([], refl, λ s stands. stands)

pub loop-rest-preserved : goal.loop-rest-preserved
loop-rest-preserved c =
    let was = c.loop-rest.invariant in
    let line : List ℕ = c.in-Some.rest.now ++ 10 ∷ [] in (
      was.0 ++ line,
      line-behind was.0 c.in-Some.rest.now c.in-Some.next.now c.loop-rest.left.now c.args.bytes.now was.1 c.in-Some.ensures.1,
      λ s stands. subst (λ (t : Stand). StandsAt t c.feed_line.new.self) (sym (bytes-behind s was.0 line)) (c.in_ok-feed_line.ensures (with_bytes s was.0) (was.2 s stands)),
    )

pub returns-then-not-is_empty : goal.returns-then-not-is_empty
returns-then-not-is_empty c s stands =
    let was = c.loop-rest.invariant in
    let left : List ℕ = c.loop-rest.left.now in
    let some : 0 < length left = search rules in
    let before = was.2 s stands in
    subst (λ (t : Stand). StandsAt t (record c.loop-rest.self { line = c.extend.new.self })) (sym (ap (with_bytes s) was.1 ∙ bytes-behind s was.0 left ∙ piece-held (with_bytes s was.0) left some c.in_default.ensures))
    (record { shown = before.shown; held = c.extend.ensures.kept ∙ ap (λ held. kept KEPT (held ++ left)) before.held; wide = before.wide })
