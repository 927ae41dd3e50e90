use Rattle.std.proofs.Common.{codes, refl, sym, ap, subst}
use Rattle.std.specs.Prelude.{IfOk}
use Rattle.std.proofs.lemmas.Result.{IfOk-weaker}
use Rattle.def_spec.specs.Flags.{procs_flag}
use Rattle.def_node.specs.Event.{Event, sent}
use Rattle.tn_term.specs.Views.{mfa_seen}
use Rattle.tn_term.specs.SharedTree.{shared_tree}
use Rattle.tn_flags.specs.Views.{class_of, event_of}
use Rattle.tn_flags.specs.declared.event.Event.TheVariants.{Spawn, Spawned, Exited, Linked, Unlinked, GettingLinked, GettingUnlinked}
use Rattle.tn_session.specs.Looks.{look_seen}
use Rattle.tn_explain.specs.Evaluations.{GivesWhere, GivesOf}
use Rattle.tn_explain.proofs.EarlierLines.{plainly_so, no_procs}
use Rattle.tn_explain.proofs.LineTexts.{by_seven}
use Rattle.tn_explain.proofs.line.Lines.put_before.Goals as goal

pub returns-in-Sent-clause-ok : goal.returns-in-Sent-clause-ok
returns-in-Sent-clause-ok g c =
    let n = c.args.self.now.name.now in
    let s = look_seen c.args.look.now in
    let a = c.in-Sent in
    let Gives : Event → Type 0 = λ e. IfOk c.put_send.result (λ r. GivesOf n s e c.args.out.now.items c.put_send.new.out.items r) in
    subst (λ e. Gives (event_of e)) (sym a.is) (subst (λ t. Gives (sent a.pid t a.to a.alive)) c.term.ensures (c.put_send.ensures.ok a.alive))

pub returns-in-Called-clause-ok : goal.returns-in-Called-clause-ok
returns-in-Called-clause-ok g c =
    let n = c.args.self.now.name.now in
    let s = look_seen c.args.look.now in
    subst (λ e. IfOk c.put_call.result (λ r. GivesOf n s (event_of e) c.args.out.now.items c.put_call.new.out.items r)) (sym c.in-Called.is) (c.put_call.ensures.ok)

pub returns-in-Returned-clause-ok : goal.returns-in-Returned-clause-ok
returns-in-Returned-clause-ok g c =
    let n = c.args.self.now.name.now in
    let s = look_seen c.args.look.now in
    subst (λ e. IfOk c.put_return.result (λ r. GivesOf n s (event_of e) c.args.out.now.items c.put_return.new.out.items r)) (sym c.in-Returned.is) (c.put_return.ensures.ok (mfa_seen c.in-Returned.mfa) (shared_tree c.in-Returned.value))

pub returns-in-Raised-clause-ok : goal.returns-in-Raised-clause-ok
returns-in-Raised-clause-ok g c =
    let n = c.args.self.now.name.now in
    let s = look_seen c.args.look.now in
    subst (λ e. IfOk c.put_raise.result (λ r. GivesOf n s (event_of e) c.args.out.now.items c.put_raise.new.out.items r)) (sym c.in-Raised.is)
    (c.put_raise.ensures.ok (mfa_seen c.in-Raised.mfa) (class_of c.in-Raised.class) (shared_tree c.in-Raised.value))

pub returns-in-Spawn-clause-ok : goal.returns-in-Spawn-clause-ok
returns-in-Spawn-clause-ok g c =
    let n = c.args.self.now.name.now in
    let s = look_seen c.args.look.now in
    let o = c.args.out.now.items in
    let x = c.put_where.new.out.items in
    let r = c.put_where.result in
    let b = c.flags_at.result.procs in
    by_seven (IfOk r (λ z. GivesOf n s (event_of c.args.event.now) o x z))
    (λ y. subst (λ e. IfOk r (λ z. GivesOf n s (event_of e) o x z)) (sym y.3)
    (IfOk-weaker r (GivesWhere n b (codes "no flag procs") o x) (GivesOf n s (event_of {A = g.row.A.Denot} (Spawn c.in-Spawn.pid y.0 y.1 y.2)) o x)
    (λ z h. plainly_so n s (event_of {A = g.row.A.Denot} (Spawn c.in-Spawn.pid y.0 y.1 y.2)) o x z b (codes "no flag procs") (refl, refl) refl (ap (λ f. f procs_flag) c.flags_at.ensures) no_procs h) c.put_where.ensures.ok))
    (λ y. subst (λ e. IfOk r (λ z. GivesOf n s (event_of e) o x z)) (sym y.3)
    (IfOk-weaker r (GivesWhere n b (codes "no flag procs") o x) (GivesOf n s (event_of {A = g.row.A.Denot} (Spawned c.in-Spawn.pid y.0 y.1 y.2)) o x)
    (λ z h. plainly_so n s (event_of {A = g.row.A.Denot} (Spawned c.in-Spawn.pid y.0 y.1 y.2)) o x z b (codes "no flag procs") (refl, refl) refl (ap (λ f. f procs_flag) c.flags_at.ensures) no_procs h) c.put_where.ensures.ok))
    (λ y. subst (λ e. IfOk r (λ z. GivesOf n s (event_of e) o x z)) (sym y.1)
    (IfOk-weaker r (GivesWhere n b (codes "no flag procs") o x) (GivesOf n s (event_of {A = g.row.A.Denot} (Exited c.in-Spawn.pid y.0)) o x)
    (λ z h. plainly_so n s (event_of {A = g.row.A.Denot} (Exited c.in-Spawn.pid y.0)) o x z b (codes "no flag procs") (refl, refl) refl (ap (λ f. f procs_flag) c.flags_at.ensures) no_procs h) c.put_where.ensures.ok))
    (λ y. subst (λ e. IfOk r (λ z. GivesOf n s (event_of e) o x z)) (sym y.1)
    (IfOk-weaker r (GivesWhere n b (codes "no flag procs") o x) (GivesOf n s (event_of {A = g.row.A.Denot} (Linked c.in-Spawn.pid y.0)) o x)
    (λ z h. plainly_so n s (event_of {A = g.row.A.Denot} (Linked c.in-Spawn.pid y.0)) o x z b (codes "no flag procs") (refl, refl) refl (ap (λ f. f procs_flag) c.flags_at.ensures) no_procs h) c.put_where.ensures.ok))
    (λ y. subst (λ e. IfOk r (λ z. GivesOf n s (event_of e) o x z)) (sym y.1)
    (IfOk-weaker r (GivesWhere n b (codes "no flag procs") o x) (GivesOf n s (event_of {A = g.row.A.Denot} (Unlinked c.in-Spawn.pid y.0)) o x)
    (λ z h. plainly_so n s (event_of {A = g.row.A.Denot} (Unlinked c.in-Spawn.pid y.0)) o x z b (codes "no flag procs") (refl, refl) refl (ap (λ f. f procs_flag) c.flags_at.ensures) no_procs h) c.put_where.ensures.ok))
    (λ y. subst (λ e. IfOk r (λ z. GivesOf n s (event_of e) o x z)) (sym y.1)
    (IfOk-weaker r (GivesWhere n b (codes "no flag procs") o x) (GivesOf n s (event_of {A = g.row.A.Denot} (GettingLinked c.in-Spawn.pid y.0)) o x)
    (λ z h. plainly_so n s (event_of {A = g.row.A.Denot} (GettingLinked c.in-Spawn.pid y.0)) o x z b (codes "no flag procs") (refl, refl) refl (ap (λ f. f procs_flag) c.flags_at.ensures) no_procs h) c.put_where.ensures.ok))
    (λ y. subst (λ e. IfOk r (λ z. GivesOf n s (event_of e) o x z)) (sym y.1)
    (IfOk-weaker r (GivesWhere n b (codes "no flag procs") o x) (GivesOf n s (event_of {A = g.row.A.Denot} (GettingUnlinked c.in-Spawn.pid y.0)) o x)
    (λ z h. plainly_so n s (event_of {A = g.row.A.Denot} (GettingUnlinked c.in-Spawn.pid y.0)) o x z b (codes "no flag procs") (refl, refl) refl (ap (λ f. f procs_flag) c.flags_at.ensures) no_procs h) c.put_where.ensures.ok))
    c.in-Spawn.is
