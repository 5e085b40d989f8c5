-- Objects by the lengths of their names.
use Rattle.std.specs.Prelude.{ℕ, Bool, List, length, find, filter, Option, bytes_eq}
use Rattle.tsb_plan.specs.declared.object.Object.{Object}
use Rattle.tsb_plan.specs.Names.{name_of}
use Rattle.tsb_plan.specs.Objects.{objects}

-- the object that has this name, of those whose names are as long as the test says
unfoldable pub named_among : (ℕ → Bool) → List ℕ → Option Object
named_among fits word = find (λ o. bytes_eq word (name_of o)) (filter (λ o. fits (length (name_of o))) objects)
