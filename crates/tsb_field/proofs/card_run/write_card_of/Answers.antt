use Rattle.std.proofs.Common.{◌≡◌, ◌∙◌, ℕ, Bool, ap, inl, option_map, subst}
use Rattle.std.proofs.Math.Path.{fun_ext}
use Rattle.tsb_card.specs.Card.{permits}
use Rattle.tsb_card.specs.Pairs.{is_permissive}
use Rattle.tsb_program.specs.Devices.{ReadsNothing}
use Rattle.tsb_text.specs.tsb_objects.Checked.{checked_plan}
use Rattle.tsb_text.specs.tsb_plan.Plan.{Plan}
use Rattle.tsb_field.specs.CardEnds.{CardGiven}
use Rattle.tsb_field.proofs.EndLemmas.{no-card}
use Rattle.tsb_field.proofs.card_run.write_card_of.Goals as goal

pub returns-in-Ok : goal.returns-in-Ok
returns-in-Ok g c =
    let same : permits c.card_of.result ≡ is_permissive (checked_plan c.in-Ok.plan) =
    fun_ext (λ a. fun_ext (λ b. c.card_of.ensures a b ∙ ap (λ (p : Plan). is_permissive p a b) c.plan.ensures.plan)) in
    let written = subst (λ (has : ℕ → ℕ → Bool). ReadsNothing (CardGiven has (option_map (λ path. path.now) c.args.against) (g.F.Files.bytes c.args.files.now) c.write_either.result) c.args.streams.now c.write_either.new.streams) same c.write_either.ensures in
    (written.0, inl (checked_plan c.in-Ok.plan, c.in-Ok.ensures.read, written.1))

pub returns-in-Err : goal.returns-in-Err
returns-in-Err g c = (
  c.refuse_plan.ensures.0.0,
  no-card c.in-Err.fault c.refuse_plan.result c.args.path.now (option_map (λ path. path.now) c.args.against) (g.F.Files.bytes c.args.files.now) c.args.streams.now.output c.refuse_plan.new.self.output
      c.args.streams.now.errors c.refuse_plan.new.self.errors c.in-Err.ensures.read c.refuse_plan.ensures.0.1 c.refuse_plan.ensures.1,
)
