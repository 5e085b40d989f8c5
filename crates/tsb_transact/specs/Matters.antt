-- What a change of an object is about, which says what a commit has to wait for.
use Rattle.std.specs.Prelude.{Bool}
use Rattle.tsb_plan.specs.declared.object.Object.{Object}
use Rattle.tsb_plan.specs.Objects.{is_structural}
use Rattle.tsb_transact.specs.declared.edit_list.Matter.{Matter}
use Rattle.tsb_transact.specs.declared.edit_list.Matter.TheVariants.{Structure, PreemptLists}
use Rattle.tsb_transact.specs.Commit.{is_preempt_list}

-- a commit waits for the rings with the one, and for the end of a preempt's service with the other
abbrev pub is_about : Matter → Object → Bool
is_about Structure o = is_structural o
is_about PreemptLists o = is_preempt_list o
