use Rattle.std.proofs.Common.{◌∙◌, [], ◌∷◌, Some, false, codes, refl, sym, ap}
use Rattle.std.proofs.lemmas.Result.{IfOk-weaker}
use Rattle.std.specs.Option.{option_map}
use Rattle.def_spec.specs.Flags.{call_flag}
use Rattle.def_node.specs.Event.{raised}
use Rattle.def_explain.specs.Accounts.{said}
use Rattle.tn_session.specs.Looks.{look_seen}
use Rattle.tn_session.specs.Views.{mark_kind_seen}
use Rattle.tn_explain.specs.Evaluations.{GivesWhere, GivesOf}
use Rattle.tn_explain.proofs.EarlierLines.{refused_so, plainly_so, unmarked_raise, raise_of_returns, marked_raise, no_call}
use Rattle.tn_explain.proofs.line.Lines.put_raise.Goals as goal

pub returns-in-None-clause-ok : goal.returns-in-None-clause-ok
returns-in-None-clause-ok g c = λ f k t.
    let n = c.args.self.now.name.now in
    let s = look_seen c.args.look.now in
    let e = raised c.args.pid f k t c.args.depth in
    let o = c.args.out.now.items in
    let x = c.put_where.new.out.items in
    IfOk-weaker c.put_where.result (GivesWhere n false (codes "the call has no mark") o x) (GivesOf n s e o x)
    (λ r h. refused_so n s e o x r (said (codes "the call has no mark") ∷ []) (unmarked_raise s c.args.pid c.args.depth f k t (sym c.mark_of.ensures ∙ ap (option_map mark_kind_seen) c.in-None.is)) h)
    c.put_where.ensures.ok

pub returns-in-Some-Returns-clause-ok : goal.returns-in-Some-Returns-clause-ok
returns-in-Some-Returns-clause-ok g c = λ f k t.
    let n = c.args.self.now.name.now in
    let s = look_seen c.args.look.now in
    let e = raised c.args.pid f k t c.args.depth in
    let o = c.args.out.now.items in
    let x = c.put_where-in-Some-Returns.new.out.items in
    let why = codes "the call is marked for returns alone" in
    let mark = c.in-Some-Returns.is ∙ ap Some c.in-Some-Returns.field-0-is in
    IfOk-weaker c.put_where-in-Some-Returns.result (GivesWhere n false why o x) (GivesOf n s e o x)
    (λ r h. refused_so n s e o x r (said why ∷ []) (raise_of_returns s c.args.pid c.args.depth f k t (sym c.mark_of.ensures ∙ ap (option_map mark_kind_seen) mark)) h)
    c.put_where-in-Some-Returns.ensures.ok

pub returns-in-Some-Exceptions-clause-ok : goal.returns-in-Some-Exceptions-clause-ok
returns-in-Some-Exceptions-clause-ok g c = λ f k t.
    let n = c.args.self.now.name.now in
    let s = look_seen c.args.look.now in
    let e = raised c.args.pid f k t c.args.depth in
    let o = c.args.out.now.items in
    let x = c.put_where-in-Some-Exceptions.new.out.items in
    let mark = c.in-Some-Exceptions.is ∙ ap Some c.in-Some-Exceptions.field-0-is in
    IfOk-weaker c.put_where-in-Some-Exceptions.result (GivesWhere n c.flags_at.result.call (codes "no flag call") o x) (GivesOf n s e o x)
    (λ r h. plainly_so n s e o x r c.flags_at.result.call (codes "no flag call") (marked_raise s c.args.pid c.args.depth f k t (sym c.mark_of.ensures ∙ ap (option_map mark_kind_seen) mark)) refl
    (ap (λ f. f call_flag) c.flags_at.ensures) no_call h)
    c.put_where-in-Some-Exceptions.ensures.ok
