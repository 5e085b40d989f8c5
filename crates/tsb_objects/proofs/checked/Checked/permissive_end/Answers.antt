use Rattle.std.proofs.Common.{◌≡◌, ℕ, ◌+◌, ◌-◌, ◌*◌, ◌≤◌, true, false, Option, Some, None, refl, ◌∙◌, sym, get_or, rules}
use Rattle.tsb_objects.specs.Checked.{checked_plan}
use Rattle.tsb_plan.specs.PlanOf.{plan_of}
use Rattle.tsb_plan.specs.Parts.{cycle}
use Rattle.tsb_plan.specs.Plan.{Plan}
use Rattle.tsb_plan.specs.Running.{is_coordinated_now}
use Rattle.tsb_objects.specs.Instants.{force_off, permissive_end_from, yields_for}
use Rattle.tsb_objects.proofs.InstantLemmas.{permissive-end-by-words}
use Rattle.tsb_objects.proofs.checked.Checked.permissive_end.Goals as goal

pub returns-clause-value : goal.returns-clause-value
unfolding checked_plan plan_of
returns-clause-value c =
    let from : 1 ≤ c.args.n = search rules in
    let within : c.args.n ≤ 16 = search rules in
    let first : 1 ≤ c.args.p = search rules in
    let last : c.args.p ≤ 16 = search rules in
    let k : ℕ = 16 * (c.args.n - 1) + (c.args.p - 1) in
    let yes : c.contains.result ≡ true = search rules in
    let one : is_coordinated_now (plan_of c.args.self.now.plan) (Some c.args.n) c.args.p ≡ true =
    sym (c.coordinated.ensures c.args.p first last) ∙ sym c.contains.ensures ∙ yes in
    c.permissive_end_at.ensures
    ∙ permissive-end-by-words (plan_of c.args.self.now.plan) c.args.n c.args.p c.cycle.result
    (get_or c.args.self.now.pattern_tables.instants k 0) (get_or c.args.self.now.pattern_tables.ends k 0) one c.cycle.ensures.value
    (c.args.self.now.patterns_are.instants c.args.n c.args.p from within first last c.requires.used)
    (c.args.self.now.patterns_are.ends c.args.n c.args.p from within first last c.requires.used)

no-end : (m time : ℕ) (o : Option ℕ) → time ≡ 0 → None ≡ permissive_end_from m time o
no-end m time None none = refl
no-end m time (Some i) none = rw none refl

yields-not : (plan : Plan) (n p : ℕ) → is_coordinated_now plan (Some n) p ≡ false → yields_for plan n p ≡ 0
yields-not plan n p out = rw out refl

pub returns-then-not-contains-clause-value : goal.returns-then-not-contains-clause-value
unfolding checked_plan plan_of
returns-then-not-contains-clause-value c =
    let first : 1 ≤ c.args.p = search rules in
    let last : c.args.p ≤ 16 = search rules in
    let no : c.contains.result ≡ false = search rules in
    let plan : Plan = plan_of c.args.self.now.plan in
    let out : is_coordinated_now plan (Some c.args.n) c.args.p ≡ false = sym (c.coordinated.ensures c.args.p first last) ∙ sym c.contains.ensures ∙ no in
    no-end (cycle plan c.args.n) (yields_for plan c.args.n c.args.p) (force_off plan (Some c.args.n) c.args.p) (yields-not plan c.args.n c.args.p out)
