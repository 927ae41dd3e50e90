use Rattle.std.proofs.Common.{◌∙◌, ◌++◌, codes, map, append_assoc}
use Rattle.def_wording.specs.RuleTexts.{function_text, arities_text, declared_arities}
use Rattle.tn_script.specs.Views.{form_of}
use Rattle.tn_refusal.specs.RuleViews.{callee_seen}
use Rattle.tn_refusal.proofs.Writes.{after_ok, put_ok}
use Rattle.tn_refusal.proofs.callee.put_wrong.Goals as goal

pub returns-in-NotExported : goal.returns-in-NotExported
returns-in-NotExported g c =
    let o = c.args.out.now.items in
    let named = function_text (callee_seen c.args.callee.now) in
    let words = codes ": function " in
    let last = codes " is internal" in
    let first = c.put_callee.new.out.items in
    let d = c.extend_from_slice.new.self.items in
    let done = c.extend_from_slice.result in
    rw c.in-NotExported.is (after_ok done o (words ++ named) last first d (c.in_ok-put_callee.ensures ∙ append_assoc o words named) (put_ok done first last d c.extend_from_slice.ensures.items))

pub returns-in-Arity : goal.returns-in-Arity
returns-in-Arity g c =
    let o = c.args.out.now.items in
    let f = callee_seen c.args.callee.now in
    let named = function_text f in
    let words = codes ": function " in
    let last = arities_text (declared_arities (map (form_of {A = g.row.A.Denot}) c.args.forms.now) f) in
    let first = c.put_callee.new.out.items in
    let d = c.put_arities.new.out.items in
    let done = c.put_arities.result in
    rw c.in-Arity.is (after_ok done o (words ++ named) last first d (c.in_ok-put_callee.ensures ∙ append_assoc o words named) c.put_arities.ensures)

pub returns-in-Duplicate : goal.returns-in-Duplicate
returns-in-Duplicate g c = rw c.in-Duplicate.is (c.in_ok-put_callee.ensures ∙ append_assoc c.args.out.now.items (codes ": function ") (function_text (callee_seen c.args.callee.now)))

pub returns-in-Undeclared : goal.returns-in-Undeclared
returns-in-Undeclared g c = rw c.in-Undeclared.is (c.in_ok-put_callee.ensures ∙ append_assoc c.args.out.now.items (codes ": function ") (function_text (callee_seen c.args.callee.now)))

pub returns-in-Unbound : goal.returns-in-Unbound
returns-in-Unbound g c = rw c.in-Unbound.is (c.in_ok-put_callee.ensures ∙ append_assoc c.args.out.now.items (codes ": function ") (function_text (callee_seen c.args.callee.now)))

pub returns-in-TracerTaken : goal.returns-in-TracerTaken
returns-in-TracerTaken g c = rw c.in-TracerTaken.is (c.in_ok-put_callee.ensures ∙ append_assoc c.args.out.now.items (codes ": function ") (function_text (callee_seen c.args.callee.now)))

pub returns-in-Limit : goal.returns-in-Limit
returns-in-Limit g c = rw c.in-Limit.is (c.in_ok-put_callee.ensures ∙ append_assoc c.args.out.now.items (codes ": function ") (function_text (callee_seen c.args.callee.now)))
