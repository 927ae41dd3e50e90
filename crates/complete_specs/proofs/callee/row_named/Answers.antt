use Rattle.std.proofs.Common.{◌∙◌, ap, sym}
use Rattle.std.specs.Option.{option_map}
use Rattle.def_spec.specs.Reading.{found_in, table}
use Rattle.tn_spec.specs.Names.{row_of}
use Rattle.complete_specs.proofs.callee.row_named.Goals as goal

pub returns : goal.returns
returns c = c.row_named.ensures ∙ ap (λ n. option_map row_of (found_in table n)) c.requires ∙ sym c.row_named-2.ensures
