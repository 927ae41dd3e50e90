use Rattle.std.proofs.Common.{◌∙◌, [], ◌∷◌, false, codes, refl, sym, ap}
use Rattle.std.proofs.lemmas.Result.{IfOk-weaker}
use Rattle.def_spec.specs.Flags.{call_flag}
use Rattle.def_node.specs.Event.{returned}
use Rattle.def_explain.specs.Accounts.{said}
use Rattle.tn_session.specs.Looks.{look_seen}
use Rattle.tn_explain.specs.Evaluations.{GivesWhere, GivesOf}
use Rattle.tn_explain.proofs.EarlierLines.{refused_so, plainly_so, unmarked, marked, no_call}
use Rattle.tn_explain.proofs.line.Lines.put_return.Goals as goal

pub returns-then-not-is_marked-clause-ok : goal.returns-then-not-is_marked-clause-ok
returns-then-not-is_marked-clause-ok g c = λ f t.
    let n = c.args.self.now.name.now in
    let s = look_seen c.args.look.now in
    let e = returned c.args.pid f t c.args.depth in
    let o = c.args.out.now.items in
    let x = c.put_where.new.out.items in
    IfOk-weaker c.put_where.result (GivesWhere n false (codes "the call has no mark") o x) (GivesOf n s e o x)
    (λ r h. refused_so n s e o x r (said (codes "the call has no mark") ∷ []) (unmarked s c.args.pid c.args.depth f t (sym c.is_marked.ensures ∙ c.if-not-is_marked.true)) h)
    c.put_where.ensures.ok

pub returns-clause-ok : goal.returns-clause-ok
returns-clause-ok g c = λ f t.
    let n = c.args.self.now.name.now in
    let s = look_seen c.args.look.now in
    let e = returned c.args.pid f t c.args.depth in
    let o = c.args.out.now.items in
    let x = c.put_where-2.new.out.items in
    IfOk-weaker c.put_where-2.result (GivesWhere n c.flags_at.result.call (codes "no flag call") o x) (GivesOf n s e o x)
    (λ r h. plainly_so n s e o x r c.flags_at.result.call (codes "no flag call") (marked s c.args.pid c.args.depth f t (sym c.is_marked.ensures ∙ c.if-not-is_marked.false)) refl
    (ap (λ f. f call_flag) c.flags_at.ensures) no_call h)
    c.put_where-2.ensures.ok
