use Rattle.tsb_field_streams.proofs.ChannelLemmas.{names-all, names-next}
use Rattle.tsb_field_streams.proofs.filter.channels.append_names.Goals as goal

pub loop-place-preserved : goal.loop-place-preserved
loop-place-preserved c =
    names-next c.args.channels.now c.loop-place.place 8 c.loop-place.text.items _ _ c.loop-place-test.true c.in_ok-append_channel.ensures c.loop-place.invariant

pub returns : goal.returns
returns c = names-all c.args.channels.now c.loop-place.place 8 c.loop-place.text.items _ c.loop-place-test.false c.loop-place.invariant
