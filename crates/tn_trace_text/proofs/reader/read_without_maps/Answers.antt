use Rattle.std.proofs.Common.{◌≡◌, ◌∙◌, false, sym, subst, rules}
use Rattle.def_trace_text.proofs.ErrorMaps.{left}
use Rattle.tn_trace_text.specs.Readings.{IsTextRead}
use Rattle.tn_trace_text.proofs.ErrorMaps.{has_no_sign}
use Rattle.tn_trace_text.proofs.reader.read_without_maps.Goals as goal

pub returns-then-not-has_number_sign : goal.returns-then-not-has_number_sign
returns-then-not-has_number_sign g c =
    let without : c.has_number_sign.result ≡ false = search rules in
    let none = has_no_sign c.args.text.now (sym c.has_number_sign.ensures ∙ without) in
    subst (λ t. IsTextRead {A = g.row.A.Denot} t c.args.number c.read_text.result) (sym (left c.args.text.now none)) c.read_text.ensures
