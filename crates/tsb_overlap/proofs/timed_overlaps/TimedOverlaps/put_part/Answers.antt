use Rattle.std.proofs.Common.{◌≡◌, ◌∙◌, ℕ, ◌+◌, ◌≤◌, Bool, true, false, not, List, slice_index, refl, sym, ap, subst, arith, rules}
use denote.Enum.Bare.{same_true}
use Rattle.tsb_cells.specs.Bank as bank
use Rattle.tsb_cells.specs.Lists.{Elsewhere}
use Rattle.tsb_objects.specs.tsb_types.declared.limits.TheConstants.{OVERLAPS}
use Rattle.tsb_overlap.specs.declared.parts.Part.{Part}
use Rattle.tsb_overlap.specs.contracts.parts.OverlapInterval.{the_type}
use Rattle.tsb_overlap.specs.declared.timed_overlaps.TimedOverlaps.{TimedOverlaps}
use Rattle.tsb_overlap.specs.Cells.{listed}
use Rattle.tsb_overlap.specs.Layer.{cells_of}
use Rattle.tsb_overlap.specs.Parts.{is_list}
use Rattle.tsb_overlap.proofs.ListLemmas.{interval-listed}
use Rattle.tsb_overlap.proofs.CellLemmas.{put-whole}
use Rattle.tsb_overlap.proofs.timed_overlaps.TimedOverlaps.put_part.Goals as goal
use Rattle.tsb_overlap.proofs.timed_overlaps.TimedOverlaps.put_part.Goals.{then-ne, else-ne}

true-of : (b : Bool) → false ≡ not b → b ≡ true
true-of true e = refl
true-of false e = absurd cc

pub returns-clause-own : goal.returns-clause-own
returns-clause-own c =
    let n : c.from-n.result ≡ c.args.o = c.from-n.ensures ∙ c.number.ensures.same in
    let from : 1 ≤ c.args.o = omega (arith, n, c.from-n.ensures, c.number.ensures.from_one) in
    let middle : List ℕ = bank.cells_of c.if-ne.self.bank in
    let timed : List ℕ = bank.cells_of c.put.new.self in
    let new : List ℕ = bank.cells_of c.put-2.new.self in
    put-whole c.args.part.now middle timed new c.args.o c.number_of.result from
    (λ k below. elim c.if-ne.branch [
      | then-ne w ↦ subst (λ (s : TimedOverlaps). listed (cells_of s) k c.args.o ≡ is_list k c.args.part.now.interval) (sym w.self-is) (w.put_interval.ensures.own k below)
      | else-ne w ↦
          (let same : c.args.was.now.interval ≡ c.args.part.now.interval = same_true the_type (search rules) _ _ (true-of _ w.if-ne.ensures) in
          subst (λ (s : TimedOverlaps). listed (cells_of s) k c.args.o ≡ is_list k c.args.part.now.interval) (sym w.self-is)
          (interval-listed (cells_of c.args.self.now) c.args.o c.requires.apart k below
          ∙ ap (is_list k) (sym (ap (λ (x : Part). x.interval) c.requires.was) ∙ same)))
    ])
    (subst (λ (m : ℕ). slice_index timed (5 + m) ≡ c.args.part.now.timer) n c.put.ensures.here)
    (subst (λ (m : ℕ). Elsewhere (5 + m) middle timed) n c.put.ensures.others)
    (subst (λ (m : ℕ). slice_index new (5 + OVERLAPS + m) ≡ c.number_of.result) n c.put-2.ensures.here)
    (subst (λ (m : ℕ). Elsewhere (5 + OVERLAPS + m) timed new) n c.put-2.ensures.others)
    c.number_of.ensures.phase c.number_of.ensures.small
