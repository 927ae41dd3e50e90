use Rattle.std.proofs.Common.{◌∙◌, sym}
use Rattle.tn_program.specs.Views.{program_of}
use Rattle.tn_replay.proofs.NodeNotes.{no_note}
use Rattle.tn_replay.proofs.note.node_note.Goals as goal

pub returns-then-not-branch : goal.returns-then-not-branch
returns-then-not-branch g c = no_note (program_of c.args.program.now) c.args.picks.now (sym c.in_ok-can_differ.ensures ∙ c.if-not-branch.true)
