use Rattle.std.proofs.Common.{◌≡◌, ℕ, ◌+◌, ◌++◌, length, min, take, ap, ◌∙◌, arith, length-take, Ok, Err}
use Rattle.std.proofs.lemmas.Bool.{false≢true}
use Rattle.std.specs.declared.result.Result.{Result}
use Rattle.std.specs.Result.{IsOk, OnOk}
use Rattle.tsb_lines.specs.Lines.{kept}
use Rattle.tsb_lines.proofs.LineLemmas.{feedless-both}
use Rattle.tsb_lines.proofs.KeptLemmas.{kept-onto, feedless-kept}
use Rattle.tsb_lines.proofs.kept.KeptLine.extend.Given.{Over}
use Rattle.tsb_lines.proofs.kept.KeptLine.extend.Goals as goal

on-ok : {T E : Type 0} (r : Result T E) (P : Type 0) → IsOk r → OnOk r P → P
on-ok (Ok x) P ok p = p
on-ok (Err e) P ok p = absurd (false≢true ok)

-- all that there is room for is taken
items : (g : Over) (c : goal.After-try_extend_from_slice g) → c.try_extend_from_slice.new.self.items ≡ kept g.row.MOST (c.self.inside.bytes.items ++ c.args.bytes.now)
items g c =
    let taken : length (take c.min-room.result c.args.bytes.now) ≡ min c.min-room.result (length c.args.bytes.now) = length-take c.min-room.result c.args.bytes.now in
    on-ok c.try_extend_from_slice.result _ (c.try_extend_from_slice.ensures.variant.1 (omega (arith, taken, c.min-room.ensures, c.remaining_capacity.ensures))) c.try_extend_from_slice.ensures.ok
    ∙ ap (λ (n : ℕ). c.self.inside.bytes.items ++ take n c.args.bytes.now) c.min-room.ensures
    ∙ kept-onto g.row.MOST c.remaining_capacity.result c.self.inside.bytes.items c.args.bytes.now c.remaining_capacity.ensures

pub returns-clause-one : goal.returns-clause-one
returns-clause-one g c = rw (← c.self.view_is) (feedless-both _ _ c.self.invariant c.requires)

pub returns-clause-kept : goal.returns-clause-kept
returns-clause-kept g c = rw (← c.self.view_is) (items g c)

pub invariant_of-self : goal.invariant_of-self
invariant_of-self g c = rw (items g c) (feedless-kept g.row.MOST _ (feedless-both _ _ c.self.invariant c.requires))
