-- Tables of plan texts.
use Rattle.std.proofs.Common.{◌≡◌, ◌≤◌, true, Some, arith, rules, inl, inr}
use Rattle.std.proofs.lemmas.Bool.{cases_Bool}
use Rattle.tsb_plan.specs.declared.object.Object.{Object}
use Rattle.tsb_plan.specs.declared.object.Range.{Range}
use Rattle.tsb_plan.specs.declared.version.Version.{Version}
use Rattle.tsb_plan.specs.declared.version.Version.TheVariants.{One, Two, Three}
use Rattle.tsb_plan.specs.Versions.{has_object, range_in, indices_in, greatest_in}
use Rattle.tsb_plan.proofs.TableLemmas.{few-indices}

-- what a range says of its object
pub record IsRange (v : Version) (o : Object) (r : Range) : Type 0 where
  pub has : has_object v o ≡ true
  pub indices : r.indices ≡ indices_in v o
  pub greatest : r.greatest ≡ greatest_in v o

pub range_is : (v : Version) (o : Object) (r : Range) → range_in v o ≡ Some r → IsRange v o r
range_is v o r e =
    elim (cases_Bool (has_object v o)) [
      | inl has ↦ record { has = has; indices = grind (arith, has, e); greatest = grind (arith, has, e) }
      | inr hasnt ↦ absurd (grind (arith, hasnt, e))
    ]

pub few_indices : (v : Version) (o : Object) → indices_in v o ≤ 256
few_indices One o = search rules
few_indices Two o = search rules
few_indices Three o = few-indices o
