use Rattle.std.proofs.Common.{◌≡◌, ◌∙◌, ◌++◌, length, map, take, reverse, sym, ap, append-nil, arith}
use Rattle.std.proofs.lemmas.List.{take_all}
use Rattle.def_state.specs.ProcessTexts.{frames_text}
use Rattle.tn_process.specs.Views.{frame_of}
use Rattle.tn_script.specs.Views.{functions_of}
use Rattle.tn_state.proofs.ProcessLemmas.{one_frame}
use Rattle.tn_state.proofs.process.put_frames.Goals as goal

pub loop-depth-init : goal.loop-depth-init
loop-depth-init g c =
    let frames = c.args.frames.now in
    (omega arith, ap (λ fs. c.args.out.now.items ++ frames_text (functions_of c.args.functions.now) (reverse (map frame_of fs))) (take_all (length frames) frames (omega arith)))

pub loop-depth-preserved : goal.loop-depth-preserved
loop-depth-preserved g c =
    let l = c.loop-depth in
    let some = c.loop-depth-test.true in
    let within = l.invariant.0 in (
      omega (arith, some, within),
      one_frame (functions_of c.args.functions.now) frame_of c.args.frames.now l.depth c.index-frames-place.result l.out.items c.put_frame.new.out.items _ some within c.index-frames-place.is l.invariant.1 c.in_ok-put_frame.ensures,
    )

pub returns : goal.returns
returns g c =
    let l = c.loop-depth in
    let past = c.loop-depth-test.false in
    let none : l.depth ≡ 0 = omega (arith, past) in
    sym (append-nil l.out.items) ∙ ap (λ n. l.out.items ++ frames_text (functions_of c.args.functions.now) (reverse (map frame_of (take n c.args.frames.now)))) (sym none) ∙ l.invariant.1
