use Rattle.tsb_step.proofs.PlaceLemmas.{memory_is_consistent, same_refusal}
use Rattle.tsb_step.proofs.laws.plans_in_memory_are_consistent.Goals as goal

pub returns-clause-consistent : goal.returns-clause-consistent
returns-clause-consistent c = memory_is_consistent

pub returns-clause-refuses : goal.returns-clause-refuses
returns-clause-refuses c = same_refusal
