use Rattle.std.proofs.Common.{◌≡◌, ◌∙◌, ap, map, sym}
use Rattle.std.proofs.lemmas.Result.{IfOk-weaker}
use Rattle.def_explore.specs.Words.{is_match}
use Rattle.def_spec.specs.Matching as matching
use Rattle.tn_guard.proofs.Views.{value_seen_lent}
use Rattle.tn_guard.specs.declared.value.Value.TheVariants.{Lent}
use Rattle.tn_head.specs.Matching.{bound_on, bound_if}
use Rattle.tn_head.specs.Views.{binding_seen}
use Rattle.tn_spec.specs.Views.{pattern_seen}
use Rattle.tn_term.specs.Views.{tree_of}
use Rattle.tn_message_pattern.proofs.Readings.{match_is}
use Rattle.tn_message_pattern.proofs.message_pattern.MessagePattern.matches.Goals as goal

pub returns : goal.returns
returns g c =
    let p = c.args.self.now.pattern in
    let t = c.args.message.now in
    IfOk-weaker c.bind_on.result (λ m. bound_on p (Lent c.args.message) c.new-bound.result.items ≡ bound_if m c.bind_on.new.bound.items) (λ m. m ≡ is_match (pattern_seen p) (tree_of t))
    (λ m is. match_is {A = g.row.B.Denot} {B = g.row.B.Denot} (pattern_seen p) (tree_of t) m c.new-bound.result.items c.bind_on.new.bound.items c.new-bound.ensures.items (sym (ap (λ u. matching.bind_on (pattern_seen p) u (map binding_seen c.new-bound.result.items)) (value_seen_lent c.args.message)) ∙ is)) c.bind_on.ensures
