use Rattle.std.proofs.Common.{[], ◌∷◌, ◌++◌, ◌∙◌, ap, append_assoc, refl, sym, List, ℕ}
use Rattle.std.proofs.lemmas.List.{append-nil}
use Rattle.tsb_lines.proofs.LineLemmas.{line-behind}
use Rattle.tsb_field_streams.proofs.StreamLemmas.{follows-same, line-broken, piece-went}
use Rattle.tsb_field_streams.proofs.stream.Stream.feed_all.Goals as goal

pub loop-rest-init : goal.loop-rest-init
loop-rest-init g c = record { well = λ w. w; cut = ([], refl, λ given before begun f. follows-same given before _ _ _ _ (sym (append-nil before)) f) }

pub returns-in-Err-clause-went : goal.returns-in-Err-clause-went
returns-in-Err-clause-went g c =
    let was = c.loop-rest.invariant.cut in
    let line : List ℕ = c.in-Some.rest.now ++ 10 ∷ [] in
    λ given before begun f.
    line-broken given before was.0 line c.in-Some.next.now c.args.bytes.now c.in-Err.fault _ _
    (line-behind was.0 c.in-Some.rest.now c.in-Some.next.now c.loop-rest.left.now c.args.bytes.now was.1 c.in-Some.ensures.1)
    (c.in-Err.ensures.went given (before ++ was.0) begun (was.2 given before begun f))

pub loop-rest-preserved : goal.loop-rest-preserved
loop-rest-preserved g c =
    let was = c.loop-rest.invariant.cut in
    let line : List ℕ = c.in-Some.rest.now ++ 10 ∷ [] in
    record {
      well = λ w. (c.in-Ok.ensures.blame (c.loop-rest.invariant.well w)).1;
      cut = (
        was.0 ++ line,
        line-behind was.0 c.in-Some.rest.now c.in-Some.next.now c.loop-rest.left.now c.args.bytes.now was.1 c.in-Some.ensures.1,
        λ given before begun f. follows-same given ((before ++ was.0) ++ line) (before ++ (was.0 ++ line)) _ _ _ (append_assoc before was.0 line)
            (c.in-Ok.ensures.went given (before ++ was.0) begun (was.2 given before begun f)),
      );
    }

pub returns-clause-went : goal.returns-clause-went
returns-clause-went g c =
    let was = c.loop-rest.invariant.cut in
    let left : List ℕ = c.loop-rest.left.now in
    λ given before begun f.
    follows-same given ((before ++ was.0) ++ left) (before ++ c.args.bytes.now) _ _ _ (append_assoc before was.0 left ∙ ap (λ (v : List ℕ). before ++ v) (sym was.1))
    (piece-went given (before ++ was.0) left c.loop-rest.self _ _ _ (was.2 given before begun f) c.in_default.ensures refl refl c.extend.ensures.kept)

pub returns-in-Err-clause-blame : goal.returns-in-Err-clause-blame
returns-in-Err-clause-blame g c well = c.in-Err.ensures.blame (c.loop-rest.invariant.well well)

pub returns-clause-blame : goal.returns-clause-blame
returns-clause-blame g c well = (refl, c.loop-rest.invariant.well well)
