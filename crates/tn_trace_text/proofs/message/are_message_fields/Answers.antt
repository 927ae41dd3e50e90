use Rattle.std.proofs.Common.{◌∙◌, ◌&&◌, ap, sym, arith}
use Rattle.def_term.specs.Names.{word}
use Rattle.def_term.specs.Order.{same}
use Rattle.tn_term.specs.Views.{tree_of}
use Rattle.tn_trace_text.proofs.MessageFields.{few_elements, elements_tell}
use Rattle.tn_trace_text.proofs.message.are_message_fields.Goals as goal

pub returns-then-fields-lt3 : goal.returns-then-fields-lt3
returns-then-fields-lt3 g c = sym (few_elements {A = g.row.A.Denot} c.args.fields.now c.if-fields-lt3.true)

pub returns-then-has_pid : goal.returns-then-has_pid
returns-then-has_pid g c =
    let told = elements_tell {A = g.row.A.Denot} c.args.fields.now c.index-fields-0.result c.index-fields-1.result (omega arith) c.index-fields-0.is c.index-fields-1.is in
    c.is_word-has_tag.ensures ∙ ap (λ b. b && same (tree_of c.index-fields-0.result) (word "trace")) (sym c.if-has_pid.true ∙ c.is_pid-has_pid.ensures) ∙ told

pub returns-else-has_pid : goal.returns-else-has_pid
returns-else-has_pid g c =
    let told = elements_tell {A = g.row.A.Denot} c.args.fields.now c.index-fields-0.result c.index-fields-1.result (omega arith) c.index-fields-0.is c.index-fields-1.is in
    c.if-has_pid.false ∙ ap (λ b. b && same (tree_of c.index-fields-0.result) (word "trace")) (sym c.if-has_pid.false ∙ c.is_pid-has_pid.ensures) ∙ told
