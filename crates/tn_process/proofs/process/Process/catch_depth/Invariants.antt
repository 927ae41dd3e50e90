use Rattle.std.proofs.Common.{◌≡◌, map, reverse, take}
use Rattle.def_outlook.specs.Outlook.{catch_depth}
use Rattle.tn_process.specs.Views.{frame_of}
use Rattle.tn_process.proofs.process.Process.catch_depth.Given as goal

abbrev pub invariant-loop-place : goal.invariant-loop-place
invariant-loop-place g l = l.depth ≡ catch_depth (reverse (map frame_of (take l.place l.self.frames.items)))
