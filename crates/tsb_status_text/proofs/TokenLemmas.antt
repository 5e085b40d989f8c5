-- The tokens of a plan, a member after another.
use Rattle.std.proofs.Common.{◌≡◌, ◌∙◌, ℕ, suc, ◌+◌, ◌-◌, ◌<◌, ◌≤◌, List, [], ◌∷◌, ◌++◌, codes, decimal, refl, sym, ap, arith, OnOk, Ok, Err}
use Rattle.std.specs.declared.result.Result.{Result}
use Rattle.json.specs.Json.{Members, no_members}
use Rattle.json.specs.Token.{Token}
use Rattle.json.specs.Tree.{json_tokens, members_tokens}
use Rattle.tsb_plan.specs.declared.object.Object.{Object}
use Rattle.tsb_plan.specs.Objects.{objects}
use Rattle.tsb_plan.specs.Plan.{Plan}
use Rattle.tsb_plan.specs.Versions.{number_of}
use Rattle.tsb_objects.specs.tsb_types.Lists.{run_from}
use Rattle.tsb_status_text.specs.PlanLine.{entries, members_of, plan_json, version_for, with_entry}

-- the values from an index on are that at it, and those after it
pub entries-more : (plan : Plan) (o : Object) (a b : ℕ) → a < b →
    entries plan o (run_from a (b - a)) ≡ with_entry a (plan.value o a) (entries plan o (run_from (a + 1) (b - (a + 1))))
unfolding run_from
entries-more plan o a b below = let e : b - a ≡ suc (b - (a + 1)) = omega arith in rw e refl

-- there are none after the last
pub entries-end : (plan : Plan) (o : Object) (a b : ℕ) → b ≤ a → entries plan o (run_from a (b - a)) ≡ no_members
unfolding run_from
entries-end plan o a b above = let e : b - a ≡ 0 = omega arith in rw e refl

-- a value is written, unless it is 0
pub entry-on : (plan : Plan) (o : Object) (a b v : ℕ) (old new all : List Token) → a < b → v ≡ plan.value o a →
    ((rest : Members) → new ++ members_tokens rest ≡ old ++ members_tokens (with_entry a v rest)) →
    old ++ members_tokens (entries plan o (run_from a (b - a))) ≡ all →
    new ++ members_tokens (entries plan o (run_from (a + 1) (b - (a + 1)))) ≡ all
entry-on plan o a b v old new all below is adds so =
    let rest = entries plan o (run_from (a + 1) (b - (a + 1))) in
    adds rest
    ∙ ap (λ (n : ℕ). old ++ members_tokens (with_entry a n rest)) is
    ∙ ap (λ (ms : Members). old ++ members_tokens ms) (sym (entries-more plan o a b below))
    ∙ so

-- the brace that closes a table is written
pub entries-done : (plan : Plan) (o : Object) (a b : ℕ) (old new all : List Token) → b ≤ a → new ≡ old ++ Token.end_object ∷ [] →
    old ++ members_tokens (entries plan o (run_from a (b - a))) ≡ all → new ≡ all
entries-done plan o a b old new all above closes so = closes ∙ ap (λ (ms : Members). old ++ members_tokens ms) (sym (entries-end plan o a b above)) ∙ so

-- the whole plan, token after token
pub plan-on : (plan : Plan) (os : List Object) (n : ℕ) (old opened named numbered new : List Token) → os ≡ objects → n ≡ number_of (version_for plan) → old ≡ [] →
    opened ≡ old ++ Token.begin_object ∷ [] → named ≡ opened ++ Token.key (codes "version") ∷ [] → numbered ≡ named ++ Token.number (decimal n) ∷ [] →
    new ≡ numbered ++ members_tokens (members_of plan os) → new ≡ json_tokens (plan_json plan)
unfolding plan_json
plan-on plan os n old opened named numbered new all version none opens names numbers rest = rw (rest, numbers, names, opens, none, all, version) refl

-- a result that is right where another is
pub on-ok : {T E : Type 0} {P Q : Type 0} (r : Result T E) → OnOk r P → (P → Q) → OnOk r Q
on-ok (Ok x) holds gives = gives holds
on-ok (Err e) holds gives = tt
