use Rattle.std.proofs.Common.{◌≡◌, ◌∙◌, ◌&&◌, ℕ, Bool, not, Option, is_some, ap, sym}
use Rattle.std.specs.List.{list_any}
use Rattle.std.proofs.Math.Path.{fun_ext}
use Rattle.tsb_objects.specs.tsb_types.Intervals.{is_dont_walk}
use Rattle.tsb_objects.specs.tsb_types.Flow.{pedestrian_of}
use Rattle.tsb_objects.specs.tsb_types.Lists.{run_from}
use Rattle.tsb_objects.specs.tsb_types.Sets.{has}
use Rattle.tsb_objects.proofs.tsb_types.FirstLemmas.{first-any}
use Rattle.tsb_overlap.proofs.SeenLemmas.{crosses}
use Rattle.tsb_overlap.proofs.surroundings.Surroundings.walks.Goals as goal

pub returns : goal.returns
returns c =
    let same : (p : ℕ) → has c.intersection.result p ≡ (has c.args.phases p && not (is_dont_walk (pedestrian_of c.args.self.now.pedestrians p))) = λ p.
    c.intersection.ensures p ∙ ap (λ (b : Bool). has c.args.phases p && b) (c.union-crossed.ensures p ∙ sym (crosses _ _)) in
    c.is_some.ensures ∙ ap (λ (o : Option ℕ). is_some o) c.first.ensures.found ∙ first-any (has c.intersection.result) (run_from 1 16)
    ∙ ap (λ (test : ℕ → Bool). list_any test (run_from 1 16)) (fun_ext same)
