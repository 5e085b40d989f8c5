use Rattle.std.proofs.Common.{[], ◌∷◌, ◌++◌, append_assoc, refl}
use Rattle.tsb_field_streams.proofs.StreamLemmas.{piece-went, went-same}
use Rattle.tsb_field_streams.proofs.stream.Stream.feed_line.Goals as goal

pub returns-clause-went : goal.returns-clause-went
returns-clause-went g c =
    λ given bytes begun f.
    went-same c.end_line.result given ((bytes ++ c.args.rest.now) ++ 10 ∷ []) (bytes ++ (c.args.rest.now ++ 10 ∷ [])) c.end_line.new.self _ _ (append_assoc bytes c.args.rest.now (10 ∷ []))
    (c.end_line.ensures.went given (bytes ++ c.args.rest.now) begun (piece-went given bytes c.args.rest.now c.args.self.now _ _ _ f c.requires.one refl refl c.extend.ensures.kept))
