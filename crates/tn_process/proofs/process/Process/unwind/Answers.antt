use Rattle.std.proofs.Common.{map, ap, sym, ◌∙◌, ◌+◌}
use Rattle.tn_flags.specs.Views.{event_of}
use Rattle.tn_script.specs.Views.{functions_of}
use Rattle.tn_process.specs.Views.{exception_view, frame_of, process_seen}
use Rattle.tn_process.proofs.Acts.{depth_seen}
use Rattle.tn_process.proofs.Exceptions.{unwinds_none, unwinds_next, unwinds_to_catch, unwinds_all, fewer}
use Rattle.tn_process.proofs.process.Process.unwind.Goals as goal

pub loop-frame-init : goal.loop-frame-init
loop-frame-init g c =
    unwinds_none (functions_of c.args.context.now.functions.now) c.args.context.now.pid (exception_view c.args.exception.now) (process_seen c.args.self.now) (map event_of c.new-events.result.items) (ap (map event_of) c.new-events.ensures.items)

pub returns-then-frame : goal.returns-then-frame
returns-then-frame g c =
    let depth = ap (λ d. d + 1) (c.len-depth.ensures ∙ c.pop_frame.new.self.frames.ok.0 ∙ sym (depth_seen frame_of c.pop_frame.new.self.frames.items)) in
    let left = unwinds_to_catch (functions_of c.args.context.now.functions.now) c.args.context.now.pid (exception_view c.args.exception.now) (process_seen c.args.self.now)
    (process_seen c.loop-frame.self) (process_seen c.pop_frame.new.self) (map event_of c.loop-frame.events.items) (map event_of c.put_raised.new.events.items) (frame_of c.in-Some.frame) _
    c.in-Some.ensures c.if-frame.true depth c.in_ok-put_raised.ensures c.loop-frame.invariant in
    record { frames = left.frames; target = left.target_is; events = left.events }

pub loop-frame-preserved-else-frame : goal.loop-frame-preserved-else-frame
loop-frame-preserved-else-frame g c =
    let depth = ap (λ d. d + 1) (c.len-depth.ensures ∙ c.pop_frame.new.self.frames.ok.0 ∙ sym (depth_seen frame_of c.pop_frame.new.self.frames.items)) in
    unwinds_next (functions_of c.args.context.now.functions.now) c.args.context.now.pid (exception_view c.args.exception.now) (process_seen c.args.self.now)
    (process_seen c.loop-frame.self) (process_seen c.pop_frame.new.self) (map event_of c.loop-frame.events.items) (map event_of c.put_raised.new.events.items) (frame_of c.in-Some.frame) _
    c.in-Some.ensures c.if-frame.false depth c.in_ok-put_raised.ensures c.loop-frame.invariant

pub loop-frame-preserved : goal.loop-frame-preserved
loop-frame-preserved g c =
    let depth = ap (λ d. d + 1) (c.len-depth.ensures ∙ c.pop_frame.new.self.frames.ok.0 ∙ sym (depth_seen frame_of c.pop_frame.new.self.frames.items)) in
    unwinds_next (functions_of c.args.context.now.functions.now) c.args.context.now.pid (exception_view c.args.exception.now) (process_seen c.args.self.now)
    (process_seen c.loop-frame.self) (process_seen c.pop_frame.new.self) (map event_of c.loop-frame.events.items) (map event_of c.put_raised.new.events.items) (frame_of c.in-Some.frame) _
    c.in-Some.ensures c.if-frame.false depth c.in_ok-put_raised.ensures c.loop-frame.invariant

pub loop-frame-smaller-else-frame : goal.loop-frame-smaller-else-frame
loop-frame-smaller-else-frame g c = fewer (process_seen c.loop-frame.self) (process_seen c.pop_frame.new.self) (frame_of c.in-Some.frame) c.in-Some.ensures

pub loop-frame-smaller : goal.loop-frame-smaller
loop-frame-smaller g c = fewer (process_seen c.loop-frame.self) (process_seen c.pop_frame.new.self) (frame_of c.in-Some.frame) c.in-Some.ensures

pub returns : goal.returns
returns g c =
    let left = unwinds_all (functions_of c.args.context.now.functions.now) c.args.context.now.pid (exception_view c.args.exception.now) (process_seen c.args.self.now)
    (process_seen c.loop-frame.self) (process_seen c.pop_frame.new.self) (map event_of c.loop-frame.events.items) c.in_default.ensures.0 c.in_default.ensures.1 c.loop-frame.invariant in
    record { frames = left.frames; target = left.target_is; events = left.events }
