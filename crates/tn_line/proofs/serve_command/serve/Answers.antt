use Rattle.std.proofs.Common.{rules}
use Rattle.tn_line.proofs.serve_command.serve.Goals as goal

pub returns : goal.returns
returns c = record { called = search rules; takes = search rules }
