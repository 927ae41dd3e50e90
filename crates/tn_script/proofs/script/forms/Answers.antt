use Rattle.std.proofs.Common.{map}
use Rattle.tn_term.specs.Views.{tree_of}
use Rattle.tn_script.proofs.FormTexts.{spelled_forms}
use Rattle.tn_script.proofs.script.forms.Goals as goal

pub returns-in-Ok : goal.returns-in-Ok
returns-in-Ok g c = spelled_forms {A = g.row.A.Denot} c.args.bytes.now (map (tree_of {A = g.row.A.Denot}) c.in-Ok.terms.items) c.forms_of_terms.result c.in-Ok.ensures c.forms_of_terms.ensures
