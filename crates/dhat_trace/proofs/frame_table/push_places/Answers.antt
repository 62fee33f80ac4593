use Rattle.std.proofs.Common.{◌<◌, length, arith}
use Rattle.dhat_trace.specs.FrameTable.{profile_frame}
use Rattle.dhat_trace.proofs.KnownLemmas.{frame-more, gains_none}
use Rattle.dhat_trace.proofs.frame_table.push_places.Goals as goal

pub each_frame-init : goal.each_frame-init
each_frame-init c = gains_none c.args.texts.now c.args.places.now.items

pub each_frame-preserved : goal.each_frame-preserved
each_frame-preserved c =
    let frames = c.args.frames.now in
    let within : c.each_frame.at-index < length frames = omega arith in
    frame-more (profile_frame c.args.tables.now) frames c.each_frame.at-index (record { instruction = 0; index = 0 })
    within
    c.args.texts.now c.each_frame.texts c.place_of.new.texts c.args.places.now.items c.each_frame.places.items
    c.push.new.self.items c.in_ok-place_of.field-0
    c.each_frame.invariant c.in_ok-place_of.ensures.added c.in_ok-place_of.ensures.place c.in_ok-push.ensures.items
