use Rattle.std.proofs.Common.{◌≢◌, ◌∙◌, if◌then◌else◌, length, true, false, Some, None, refl, sym, ap₂, arith}
use Rattle.std.proofs.lemmas.Bool.Decides.{nat_tests}
use Rattle.tn_term.specs.Views.{tree_of}
use Rattle.tn_session.proofs.Commands.{not_one, one_option, of_one}
use Rattle.tn_session.proofs.arguments.options_in.Goals as goal

pub returns-then-len-ne1 : goal.returns-then-len-ne1
returns-then-len-ne1 g c =
    let stored = c.args.items.now.ok.0 in
    let some : length c.args.items.now.items ≢ 0 = λ e. grind (arith, nat_tests, c.if-is_empty.false, c.is_empty.ensures, stored, e) in
    not_one c.args.items.now.items some (λ e. c.if-len-ne1.true (omega (arith, e)))

pub returns-then-is_word : goal.returns-then-is_word
returns-then-is_word g c =
    let stored = c.args.items.now.ok.0 in
    let v = c.args.items.now.items in
    let t = tree_of c.index-only.result.now in
    ap₂ (λ a b. if a then Some false else if b then Some true else None) (sym c.if-is_word.true) refl
    ∙ one_option t c.is_word.result _ c.is_word.ensures refl ∙ of_one v c.index-only.result.now (omega arith) c.index-only.ensures

pub returns-then-is_word-2 : goal.returns-then-is_word-2
returns-then-is_word-2 g c =
    let stored = c.args.items.now.ok.0 in
    let v = c.args.items.now.items in
    let t = tree_of c.index-only.result.now in
    ap₂ (λ a b. if a then Some false else if b then Some true else None) (sym c.if-is_word.false) (sym c.if-is_word-2.true)
    ∙ one_option t c.is_word.result c.is_word-else-is_word.result c.is_word.ensures c.is_word-else-is_word.ensures ∙ of_one v c.index-only.result.now (omega arith) c.index-only.ensures

pub returns-else-is_word-2 : goal.returns-else-is_word-2
returns-else-is_word-2 g c =
    let stored = c.args.items.now.ok.0 in
    let v = c.args.items.now.items in
    let t = tree_of c.index-only.result.now in
    ap₂ (λ a b. if a then Some false else if b then Some true else None) (sym c.if-is_word.false) (sym c.if-is_word-2.false)
    ∙ one_option t c.is_word.result c.is_word-else-is_word.result c.is_word.ensures c.is_word-else-is_word.ensures ∙ of_one v c.index-only.result.now (omega arith) c.index-only.ensures
