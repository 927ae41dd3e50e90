use Rattle.std.proofs.Common.{map}
use Rattle.tn_program.specs.Faults.{rule_of}
use Rattle.tn_script.specs.Views.{form_of}
use Rattle.tn_refusal.proofs.Details.{told_rule}
use Rattle.tn_refusal.proofs.detail.put_rule.Goals as goal

pub returns-in-Some : goal.returns-in-Some
returns-in-Some g c =
    told_rule c.put_broken.result c.args.text.now (rule_of c.args.rule) c.args.form c.args.out.now.items c.put_broken.new.out.items (map (form_of {A = g.row.A.Denot}) c.in-Some.forms.items)
    (rw c.in-Some.is at c.requires) (rw c.deref.ensures.value at c.put_broken.ensures)
