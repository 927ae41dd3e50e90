use Rattle.std.proofs.Common.{◌∙◌, ◌+◌, Bool, sym, subst}
use Rattle.def_session.specs.State.{Session}
use Rattle.def_running_node.specs.NodeReplies.{is_of_own_kind, with_disabled}
use Rattle.tn_index.specs.Views.{function_pattern_seen}
use Rattle.tn_session.specs.declared.session.Session as code
use Rattle.tn_running_node.specs.Replies.{LiveBecomes, own_kind_from, visible_of}
use Rattle.tn_running_node.proofs.FunctionDisables.{own_kind_step, own_kind_end, at_start, at_end, and_disabled, and_left}
use Rattle.tn_running_node.proofs.function_settings.disable_own_kind.Goals as goal
use Rattle.tn_running_node.proofs.function_settings.disable_own_kind.Goals.{then-branch+in_ok-disable, else-branch}

pub loop-function-init : goal.loop-function-init
loop-function-init g c = at_start c.args.session.now (own_kind_from c.args.covered.now c.args.local c.args.functions.now 0)

pub loop-function-preserved : goal.loop-function-preserved
loop-function-preserved g c =
    let start = c.args.session.now in
    let now = c.loop-function.session in
    let next = c.if-branch.session in
    let covered = c.args.covered.now in
    let local = c.args.local in
    let fs = c.args.functions.now in
    let i = c.loop-function.function-index in
    let x = c.function-item.result in
    let step = own_kind_step covered local fs i x c.loop-function-test.true c.function-item.is in
    let test : Session → Bool = λ s. is_of_own_kind s (function_pattern_seen covered) local (visible_of x) in
    let whole = own_kind_from covered local fs 0 in
    let rest = own_kind_from covered local fs i in
    let after = own_kind_from covered local fs (i + 1) in
    elim c.if-branch.branch [
      | then-branch+in_ok-disable w ↦
          let P : code.Session g.row.A.Denot → Type 0 = λ k. LiveBecomes (with_disabled local (visible_of x)) now k in
          and_disabled start now next whole rest after test local (visible_of x) step (λ v at. sym w.if-branch.true ∙ c.in_ok-is_of_own_kind.ensures v at) (subst P (sym w.session-is) w.in_ok-disable.ensures) c.loop-function.invariant
      | else-branch w ↦
          and_left start now next whole rest after test local (visible_of x) step (λ v at. sym w.if-branch.false ∙ c.in_ok-is_of_own_kind.ensures v at) w.session-is c.loop-function.invariant
    ]

pub returns : goal.returns
returns g c =
    let covered = c.args.covered.now in
    let local = c.args.local in
    let fs = c.args.functions.now in
    at_end c.args.session.now c.loop-function.session (own_kind_from covered local fs 0) (own_kind_from covered local fs c.loop-function.function-index)
    (own_kind_end covered local fs c.loop-function.function-index c.loop-function-test.false) c.loop-function.invariant
