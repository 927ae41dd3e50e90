use Rattle.std.specs.Vec.Iter.{into_iter_items}
use Rattle.def_script.specs.Rules.{function_of_form, entry_of_form, commands_of_form}
use Rattle.tn_flags.specs.Views.{command_of}
use Rattle.tn_script.specs.Views.{function_of, entry_of, form_of}
use Rattle.tn_program.proofs.FormParts.{GatheredSo}
use Rattle.tn_program.proofs.gather.gather.Given as goal

abbrev pub invariant-loop-form : goal.invariant-loop-form
invariant-loop-form g l = record {
  functions : GatheredSo function_of_form (form_of {A = g.row.A.Denot}) (function_of {A = g.row.A.Denot}) l.initial.form-iterator.rest.items (into_iter_items l.form-iterator) l.functions.items;
  entries : GatheredSo entry_of_form (form_of {A = g.row.A.Denot}) (entry_of {A = g.row.A.Denot}) l.initial.form-iterator.rest.items (into_iter_items l.form-iterator) l.entries.items;
  commands : GatheredSo commands_of_form (form_of {A = g.row.A.Denot}) (command_of {A = g.row.A.Denot}) l.initial.form-iterator.rest.items (into_iter_items l.form-iterator) l.commands.items;
}
