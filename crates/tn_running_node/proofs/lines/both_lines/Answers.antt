use Rattle.std.proofs.Common.{◌∙◌, ℕ, refl, sym, ap, ap₂, map}
use Rattle.std.specs.declared.vec.Vec.{Vec}
use Rattle.def_running_node.specs.NodeRuns.{lines_between}
use Rattle.def_running_node.proofs.LinesBetween.{no_line_where_same}
use Rattle.tn_running_node.specs.SameMessages.{lines_here, lines_there}
use Rattle.tn_running_node.proofs.lines.both_lines.Goals as goal

-- nothing is between no lines, nor between the lines here and themselves
pub returns-in-None : goal.returns-in-None
returns-in-None g c =
    let m = c.args.message.now in
    ap₂ (λ x y. lines_between (map (λ (v : Vec ℕ _). v.items) x) (map (λ (v : Vec ℕ _). v.items) y)) c.new.ensures.items c.new-in-None.ensures.items
    ∙ sym ((no_line_where_same (lines_here m) (lines_here m)).1 refl) ∙ sym (ap (λ t. lines_between (lines_here m) (lines_there m t)) c.in-None.is)
