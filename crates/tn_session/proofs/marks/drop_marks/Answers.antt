use Rattle.std.proofs.Common.{◌==◌, Bool, not, rules}
use Rattle.std.proofs.lemmas.Fn.{filter_same}
use Rattle.tn_session.specs.declared.state.Mark.{Mark}
use Rattle.tn_session.proofs.marks.drop_marks.Goals as goal

pub returns : goal.returns
returns g c =
    let stays : Mark → Bool = λ m. not (m.depth == c.args.depth) in
    filter_same _ stays _ (λ m b f k. search rules) _ _ c.retain.ensures.filtered
