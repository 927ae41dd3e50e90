use Rattle.std.proofs.Common.{◌≡◌, ◌==◌, ◌∙◌, Bool, Some, None, reverse, sym, ap, rules, tests}
use Rattle.std.proofs.lemmas.Iterator.Adapters.{YieldsList-from_rev_slice}
use Rattle.std.proofs.lemmas.Iterator.Search.{find_from_yields_List}
use Rattle.std.specs.List.{find}
use Rattle.std.specs.Option.{option_map}
use Rattle.tn_session.specs.Views.{mark_kind_seen}
use Rattle.tn_session.specs.declared.state.Mark.{Mark}
use Rattle.tn_session.proofs.MarkLemmas.{kind_of_newest}
use Rattle.tn_session.proofs.marks.kind_among.Goals as goal

pub returns : goal.returns
returns c =
    let ms = c.args.marks.now in
    let is : Mark → Bool = λ m. m.depth == c.args.depth in
    let first : option_map (λ x. x.now) c.find.result ≡ find is (reverse ms) =
    find_from_yields_List is _ _ c.find.result c.find.ensures.ran (YieldsList-from_rev_slice ms cc) (λ x b q k. search (rules, tests)) in
    kind_of_newest ms c.args.depth (Some c.in_ok-newest.newest.now) (sym (ap (option_map (λ x. x.now)) c.in_ok-newest.was) ∙ first)

pub returns-in_err-newest : goal.returns-in_err-newest
returns-in_err-newest c =
    let ms = c.args.marks.now in
    let is : Mark → Bool = λ m. m.depth == c.args.depth in
    let first : option_map (λ x. x.now) c.find.result ≡ find is (reverse ms) =
    find_from_yields_List is _ _ c.find.result c.find.ensures.ran (YieldsList-from_rev_slice ms cc) (λ x b q k. search (rules, tests)) in
    ap (option_map mark_kind_seen) c.from_residual.ensures ∙ kind_of_newest ms c.args.depth None (sym (ap (option_map (λ x. x.now)) c.in_err-newest.was) ∙ first)
