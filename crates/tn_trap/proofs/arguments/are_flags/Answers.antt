use Rattle.std.proofs.Common.{◌∙◌, arith}
use Rattle.std.specs.Prelude.{is_some}
use Rattle.def_spec.specs.Flags.{flags_named}
use Rattle.tn_term.specs.Views.{trees_of}
use Rattle.tn_trap.proofs.Firsts.{flag_there}
use Rattle.tn_trap.proofs.arguments.are_flags.Goals as goal

pub loop-i-preserved : goal.loop-i-preserved
loop-i-preserved g c =
    let xs = c.args.terms.now.items in
    let size = c.len-i-end.ensures ∙ c.args.terms.now.ok.0 in
    flag_there xs c.loop-i.i (is_some (flags_named (trees_of xs))) c.index.result.now (omega (arith, size)) c.index.ensures (cc) c.loop-i.invariant
