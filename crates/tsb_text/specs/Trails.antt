-- What is said where something follows an input: its events, and that it was refused, if it was.
use Rattle.std.specs.Prelude.{◌≡◌, ℕ, List, ◌++◌, Bool, Option}
use Rattle.tsb_objects.specs.tsb_types.declared.refusal.Refusal.{Refusal}
use Rattle.tsb_bench.specs.tsb_step.declared.inputs.Input.{Input}
use Rattle.tsb_dialog.specs.Said.{with_feed}
use Rattle.tsb_text.specs.Answers.{Leads, Setup, refused_after}
use Rattle.tsb_text.specs.Obeys.{Besides, trail}

-- what follows is taken where these inputs remain, and its events are these lines; or it is refused
pub record Trailing (given : Setup) (tells : Bool) (is next : List Input) (text : List ℕ) (refusal : Option Refusal) (new : List Input) : Type 0 where
  pub leads : Leads given is next refusal new
  pub told : text ≡ trail tells given is next new

-- so after the events of an input; then comes the line that answers it
pub record Trails (given : Setup) (besides : Besides) (is next : List Input) (news line : List ℕ) (text : List ℕ) (refusal : Option Refusal) (new : List Input) : Type 0 where
  pub leads : Leads given is next refusal new
  pub told : text ≡ (news ++ trail besides.tells given is next new) ++ (with_feed line ++ refused_after besides.echo refusal)
