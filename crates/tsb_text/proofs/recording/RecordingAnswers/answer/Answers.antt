use Rattle.std.proofs.Common.{◌∙◌, ap, refl}
use Rattle.std.proofs.lemmas.Result.{err_from_is_err_and}
use Rattle.tsb_text.specs.declared.faults.OnFault.{OnFault}
use Rattle.tsb_text.specs.recording.Faults.{fault_text}
use Rattle.tsb_text.specs.recording.Leaves.{Does}
use Rattle.tsb_text.specs.Stops.{flow_after, stop_in, stopped_at}
use Rattle.tsb_text.specs.recording.Recording.{Left}
use Rattle.tsb_text.proofs.recording.LineLemmas.{after_line, says-found, told-front}
use Rattle.tsb_text.proofs.recording.RecordingAnswers.answer.Goals as goal

pub returns-in_err-tell-clause-answered : goal.returns-in_err-tell-clause-answered
returns-in_err-tell-clause-answered g c s here =
    let p = err_from_is_err_and c.from_residual.result c.from_residual.ensures.1 in
    let d : Left c.carry_out-fault.result s.given s.given.log c.carry_out-fault.new.course (Does s.given s.end.inputs c.reading_of-reading.result) =
    c.carry_out-fault.ensures.done s.given s.given.log s.end.inputs here.0 in
    rw p.1 (told-front s (after_line s d.0 (stop_in c.stop_at-self.result)) c.args.number c.args.line.now (fault_text c.args.number c.args.line.now c.carry_out-fault.result) (flow_after c.quits-is_quit.result (stop_in c.stop_at-self.result)) _ _ _ _ c.tell.ensures.front
    (says-found s c.args.number c.args.line.now c.reading_of-reading.result c.carry_out-fault.result d.0 c.quits-is_quit.result (stop_in c.stop_at-self.result) _ c.reading_of-reading.ensures c.quits-is_quit.ensures
    (c.stop_at-self.ensures ∙ ap (λ (w : OnFault). stopped_at w c.args.number c.args.line.now c.carry_out-fault.result) here.1) refl d.2))

pub returns-clause-answered : goal.returns-clause-answered
returns-clause-answered g c s here =
    let d : Left c.carry_out-fault.result s.given s.given.log c.carry_out-fault.new.course (Does s.given s.end.inputs c.reading_of-reading.result) =
    c.carry_out-fault.ensures.done s.given s.given.log s.end.inputs here.0 in (
      after_line s d.0 (stop_in c.stop_at-self.result),
      (d.1, here.1, c.carry_out-fault.ensures.mode ∙ here.2, refl),
      record {
        text = fault_text c.args.number c.args.line.now c.carry_out-fault.result;
        said = c.in_ok-tell.ensures.ok;
        so = says-found s c.args.number c.args.line.now c.reading_of-reading.result c.carry_out-fault.result d.0 c.quits-is_quit.result (stop_in c.stop_at-self.result) c.flow_after.result c.reading_of-reading.ensures c.quits-is_quit.ensures
            (c.stop_at-self.ensures ∙ ap (λ (w : OnFault). stopped_at w c.args.number c.args.line.now c.carry_out-fault.result) here.1) c.flow_after.ensures d.2;
      },
    )
