use Rattle.std.proofs.Common.{◌∙◌, ◌≢◌, Bool, true, false, length, sym, ap, arith, if◌then◌else◌}
use Rattle.std.proofs.lemmas.Bool.{eqb-true, eqb-false}
use Rattle.def_term.specs.Names.{word}
use Rattle.def_term.specs.Tree.{list}
use Rattle.def_running_node.specs.NodeReplies.{all_are_this, option_term}
use Rattle.tn_term.specs.Views.{trees_of}
use Rattle.tn_running_node.proofs.FunctionArguments.{none_is, once_is}
use Rattle.tn_running_node.proofs.arguments.only_option.Goals as goal

pub returns-then-is_empty : goal.returns-then-is_empty
returns-then-is_empty g c =
    let v = c.args.items.now in
    let stored = v.ok.0 in
    let zero = eqb-true v.len 0 (sym c.is_empty.ensures ∙ c.if-is_empty.true) in
    none_is v.items (omega (arith, stored, zero))

pub returns-then-all_are_this : goal.returns-then-all_are_this
returns-then-all_are_this g c =
    let v = c.args.items.now in
    let stored = v.ok.0 in
    let some : length v.items ≢ 0 = λ e. eqb-false v.len 0 (sym c.is_empty.ensures ∙ c.if-is_empty.false) (omega (arith, e, stored)) in
    let others = if all_are_this (word "global") (trees_of v.items) then option_term false else list (trees_of v.items) in
    once_is v.items some ∙ ap (λ b. if b then option_term true else others) (sym c.all_are_this.ensures ∙ c.if-all_are_this.true)

pub returns-then-all_are_this-2 : goal.returns-then-all_are_this-2
returns-then-all_are_this-2 g c =
    let v = c.args.items.now in
    let stored = v.ok.0 in
    let some : length v.items ≢ 0 = λ e. eqb-false v.len 0 (sym c.is_empty.ensures ∙ c.if-is_empty.false) (omega (arith, e, stored)) in
    let chosen = λ (a b : Bool). if a then option_term true else (if b then option_term false else list (trees_of v.items)) in
    once_is v.items some ∙ ap (λ a. chosen a (all_are_this (word "global") (trees_of v.items))) (sym c.all_are_this.ensures ∙ c.if-all_are_this.false) ∙ ap (chosen false) (sym c.all_are_this-2.ensures ∙ c.if-all_are_this-2.true)

pub returns : goal.returns
returns g c =
    let v = c.args.items.now in
    let stored = v.ok.0 in
    let some : length v.items ≢ 0 = λ e. eqb-false v.len 0 (sym c.is_empty.ensures ∙ c.if-is_empty.false) (omega (arith, e, stored)) in
    let chosen = λ (a b : Bool). if a then option_term true else (if b then option_term false else list (trees_of v.items)) in
    once_is v.items some ∙ ap (λ a. chosen a (all_are_this (word "global") (trees_of v.items))) (sym c.all_are_this.ensures ∙ c.if-all_are_this.false) ∙ ap (chosen false) (sym c.all_are_this-2.ensures ∙ c.if-all_are_this-2.false)
