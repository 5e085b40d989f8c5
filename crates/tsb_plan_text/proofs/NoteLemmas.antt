-- A plan text without its notes gives the same plan. Proves `notes_change_nothing`.
use Rattle.std.proofs.Common.{◌≡◌, ℕ, ◌≤◌, nat_lt, nat_cmp, Bool, true, false, List, length, Option, Some, Ok, if◌then◌else◌, codes, bytes_eq, refl, sym, ◌∙◌, ap, subst}
use Rattle.std.proofs.lemmas.Bool.{le-ltb}
use Rattle.std.proofs.lemmas.Slice.Eq.{bytes_eq-Decides}
use Rattle.std.specs.Cmp.Lexicographic.{slice_cmp}
use Rattle.std.specs.Ordering.{match_ordering}
use Rattle.serde_json.specs.Data.{Data, Members, no_members, member, object}
use Rattle.serde_json.specs.Find.{get_member}
use Rattle.tsb_plan.specs.declared.version.Version.{Version}
use Rattle.tsb_plan.specs.declared.version.Version.TheVariants.{One, Two, Three}
use Rattle.tsb_plan.specs.Names.{object_named}
use Rattle.tsb_plan.specs.Objects.{objects}
use Rattle.tsb_plan.specs.Plan.{Plan, empty}
use Rattle.tsb_plan_text.specs.NotesLaw.{without_notes}
use Rattle.tsb_plan_text.specs.PlanErrors.{not_json, no_version}
use Rattle.tsb_plan_text.specs.PlanText.{limit, data_of, version_in, or_fault, then_on, with_object, with_member, with_members, data_plan, checked, reading}
use Rattle.tsb_plan_text.proofs.SaysLemmas.{or_ok, then_ok, short, notes_keep}

-- a member of this name leaves the plan: texts of versions 1 and 2 with it give none
notes_leave : (v : Version) (d : Data) (p q : Plan) → with_member v (codes "notes") d p ≡ Ok q → p ≡ q
unfolding with_member with_object object_named objects
notes_leave One d p q e = absurd cc
notes_leave Two d p q e = absurd cc
notes_leave Three d p q e = notes_keep d p q e

-- without them the other members give the same plan
members_without : (v : Version) (ms : Members) (p q : Plan) → with_members v ms p ≡ Ok q → with_members v (without_notes ms) p ≡ Ok q
members_without v no_members p q e = e
members_without v (member name d rest) p q e =
    let first = then_ok (with_member v name d p) (with_members v rest) q e in
    go (bytes_eq name (codes "notes")) refl first.0 first.1 (members_without v rest first.0 q first.2)
  where
    go : (b : Bool) → bytes_eq name (codes "notes") ≡ b → (r : Plan) → with_member v name d p ≡ Ok r → with_members v (without_notes rest) r ≡ Ok q →
        with_members v (if b then without_notes rest else member name d (without_notes rest)) p ≡ Ok q
    go true is r made later =
        let same : name ≡ codes "notes" = (bytes_eq-Decides name (codes "notes")).0 is in
        let kept : p ≡ r = notes_leave v d p r (subst (λ (n : List ℕ). with_member v n d p ≡ Ok r) same made) in
        subst (λ (s : Plan). with_members v (without_notes rest) s ≡ Ok q) (sym kept) later
    go false is r made later = rw made later

-- and the same version
version_without : (ms : Members) → get_member (codes "version") (without_notes ms) ≡ get_member (codes "version") ms
version_without no_members = refl
version_without (member name d rest) = go (bytes_eq name (codes "notes")) refl (version_without rest)
  where
    go : (b : Bool) → bytes_eq name (codes "notes") ≡ b → get_member (codes "version") (without_notes rest) ≡ get_member (codes "version") rest →
        get_member (codes "version") (if b then without_notes rest else member name d (without_notes rest))
        ≡ match_ordering (slice_cmp nat_cmp (codes "version") name) (get_member (codes "version") rest) (Some d) (get_member (codes "version") rest)
    go true is same =
        let it : name ≡ codes "notes" = (bytes_eq-Decides name (codes "notes")).0 is in
        same ∙ ap (λ (n : List ℕ). match_ordering (slice_cmp nat_cmp (codes "version") n) (get_member (codes "version") rest) (Some d) (get_member (codes "version") rest)) (sym it)
    go false is same =
        ap (λ (o : Option Data). match_ordering (slice_cmp nat_cmp (codes "version") name) o (Some d) o) same

pub notes_change : (text other : List ℕ) (members : Members) (plan : Plan) → reading text ≡ Ok plan →
    data_of text ≡ Some (object members) → data_of other ≡ Some (object (without_notes members)) → length other ≤ limit → reading other ≡ Ok plan
unfolding reading data_plan
notes_change text other members plan e is them le =
    let read : then_on (data_plan (object members)) checked ≡ Ok plan =
    sym (ap (λ (o : Option Data). or_fault o not_json (λ d. then_on (data_plan d) checked)) is) ∙ short (nat_lt limit (length text)) _ plan e in
    let made = then_ok (data_plan (object members)) checked plan read in
    let v = or_ok (version_in members) no_version _ made.0 made.1 in
    let others : with_members v.0 (without_notes members) empty ≡ Ok made.0 = members_without v.0 members empty made.0 v.2 in
    let short : nat_lt limit (length other) ≡ false = le-ltb limit (length other) le in
    rw (short, them, version_without members, v.1, others) made.2
