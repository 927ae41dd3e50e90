use Rattle.std.proofs.Common.{◌∙◌, [], ◌∷◌, None, false, codes, refl, sym, ap}
use Rattle.std.proofs.lemmas.Result.{IfOk-weaker}
use Rattle.def_term.specs.Tree.{pid}
use Rattle.def_term.specs.Names.{word}
use Rattle.def_spec.specs.Flags.{receive_flag}
use Rattle.def_node.specs.Event.{received}
use Rattle.def_session.specs.Session.{context, evaluated_by}
use Rattle.tn_term.specs.Views.{tree_of}
use Rattle.tn_session.specs.Looks.{look_seen, look_setting}
use Rattle.tn_session.proofs.Evaluations.{list_of_receive}
use Rattle.tn_explain.specs.Evaluations.{GivesWhere, GivesOf}
use Rattle.tn_explain.proofs.EarlierLines.{unflagged_so, settled_so, receive_by, no_receive}
use Rattle.tn_explain.proofs.line.Lines.put_receive.Goals as goal

pub returns-then-not-flags_at-clause-ok : goal.returns-then-not-flags_at-clause-ok
returns-then-not-flags_at-clause-ok g c =
    let n = c.args.self.now.name.now in
    let s = look_seen c.args.look.now in
    let e = received c.args.pid c.args.sender (tree_of c.args.message.now) in
    let o = c.args.out.now.items in
    let x = c.put_where.new.out.items in
    IfOk-weaker c.put_where.result (GivesWhere n false (codes "no flag 'receive'") o x) (GivesOf n s e o x)
    (λ r h. unflagged_so n s e o x r (evaluated_by s.receiving (context s c.args.pid (word "nonode@nohost" ∷ pid c.args.sender ∷ tree_of c.args.message.now ∷ []) None)) (codes "no flag 'receive'") (refl, refl)
    (ap (λ f. f receive_flag) (sym c.flags_at.ensures) ∙ c.if-not-flags_at.true) no_receive h)
    c.put_where.ensures.ok

pub returns-clause-ok : goal.returns-clause-ok
returns-clause-ok g c =
    let n = c.args.self.now.name.now in
    let s = look_seen c.args.look.now in
    let e = received c.args.pid c.args.sender (tree_of c.args.message.now) in
    settled_so n s e _ _ _ (look_setting c.receive_setting.result) s.receiving _ _ c.receive_setting.ensures
    (ap (λ ts. context s c.args.pid ts None) (list_of_receive c.args.sender c.args.message))
    (receive_by s c.args.pid c.args.sender (tree_of c.args.message.now) (ap (λ f. f receive_flag) (sym c.flags_at.ensures) ∙ c.if-not-flags_at.false))
    c.in_ok-put_values.ensures.ok
