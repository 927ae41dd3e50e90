use Rattle.std.proofs.Common.{◌∙◌, sym, map}
use Rattle.std.specs.Arc.{arc_value}
use Rattle.tn_flags.specs.Views.{command_of}
use Rattle.tn_script.specs.Views.{functions_of, entry_of}
use Rattle.tn_script.proofs.Equal.{seen_equal}
use Rattle.tn_program.proofs.FormParts.{program_equal}
use Rattle.tn_program.proofs.parts.Program.same.Goals as goal

pub returns : goal.returns
returns g c = program_equal (functions_of (arc_value c.args.self.now.functions).items) (functions_of (arc_value c.args.other.now.functions).items) (map (entry_of {A = g.row.A.Denot}) c.args.self.now.entries.items) (map (entry_of {A = g.row.A.Denot}) c.args.other.now.entries.items) (map (command_of {A = g.row.A.Denot}) c.args.self.now.commands.items) (map (command_of {A = g.row.A.Denot}) c.args.other.now.commands.items) c.same_commands.result
    (sym c.functions.ensures ∙ c.same_functions.ensures.0 c.if-not-same_functions.false ∙ c.functions-2.ensures)
    ((seen_equal (entry_of {A = g.row.A.Denot}) c.args.self.now.entries.items c.args.other.now.entries.items c.deref.result.now c.deref-2.result.now c.same_entries.result c.deref.ensures.value c.deref-2.ensures.value c.same_entries.ensures).0 c.if-not-same_entries.false)
    (seen_equal (command_of {A = g.row.A.Denot}) c.args.self.now.commands.items c.args.other.now.commands.items c.deref-3.result.now c.deref-4.result.now c.same_commands.result c.deref-3.ensures.value c.deref-4.ensures.value c.same_commands.ensures)
