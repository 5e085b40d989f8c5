-- The names of objects, as NTCIP 1202 and plan texts have them, each as the bytes of its text; and which object of a
-- version has a name.
use Rattle.std.specs.Prelude.{◌≡◌, ℕ, true, ◌&&◌, List, Option, bytes_eq, find}
use Rattle.tsb_plan.specs.declared.object.Object.{Object}
use Rattle.tsb_plan.specs.declared.version.Version.{Version}
use Rattle.tsb_plan.specs.Objects.{objects, row}
use Rattle.tsb_plan.specs.Versions.{has_object}

-- the object's name
abbrev pub name_of : Object → List ℕ
name_of o = (row o).name

-- the version has the object, and this is its name
pub record IsNamed (v : Version) (o : Object) (text : List ℕ) : Type 0 where
  pub has : has_object v o ≡ true
  pub name : name_of o ≡ text

-- the object of the version that has this name, or `None`
unfoldable pub object_named : Version → List ℕ → Option Object
object_named v text = find (λ o. has_object v o && bytes_eq (name_of o) text) objects
