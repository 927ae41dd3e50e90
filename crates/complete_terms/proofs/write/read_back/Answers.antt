use Rattle.std.proofs.Common.{◌∙◌, ◌++◌, ap}
use Rattle.def_term.specs.Text.{w}
use Rattle.tn_term.specs.Views.{tree_of}
use Rattle.complete_terms.proofs.Terms.{written_read}
use Rattle.complete_terms.proofs.write.read_back.Goals as goal

pub returns : goal.returns
returns g c =
    let t = (tree_of {A = g.row.A.Denot}) c.args.term.now in
    let text = c.as_slice.ensures.value ∙ c.in-Ok.ensures.ok ∙ ap (λ b. b ++ w t) c.requires.empty in
    written_read c.as_slice.result.now t c.read_term.result text c.requires.writable c.requires.fits c.requires.short c.read_term.ensures
