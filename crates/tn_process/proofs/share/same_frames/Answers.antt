use Rattle.std.proofs.Common.{map, ap, reverse}
use Rattle.tn_process.specs.Views.{frame_of}
use Rattle.tn_process.proofs.Frames.{reverse_same}
use Rattle.tn_process.proofs.share.same_frames.Goals as goal

pub returns : goal.returns
returns g c = (
  λ yes. ap reverse (c.same.ensures.0 yes),
  λ e. c.same.ensures.1 (reverse_same (map (frame_of {A = g.row.A.Denot}) c.args.one.now.items) (map (frame_of {A = g.row.A.Denot}) c.args.other.now.items) e),
)
