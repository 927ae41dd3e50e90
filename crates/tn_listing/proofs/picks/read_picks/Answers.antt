use Rattle.std.proofs.Common.{◌≡◌, ◌++◌, map, decimal, length, append-nil, ap, ◌∙◌, arith, rules}
use Rattle.tn_listing.specs.Pieces.{pieces}
use Rattle.def_run.specs.Picks.{SpellsPicks}
use Rattle.tn_listing.proofs.PiecesLemmas.{bad_piece, spelled_by, spelled_once, spelled_by_none}
use Rattle.tn_listing.proofs.picks.read_picks.Invariants.{left_pieces}
use Rattle.tn_listing.proofs.picks.read_picks.Goals as goal

pub returns-in_default-number-clause-bad : goal.returns-in_default-number-clause-bad
returns-in_default-number-clause-bad g c _ picks spells =
    let split : pieces c.args.text.now ≡ map decimal c.loop-left.picks.items ++ pieces c.in-Some.rest.now =
    c.loop-left.invariant.split ∙ ap (λ o. map decimal c.loop-left.picks.items ++ left_pieces o) c.in-Some.is in
    bad_piece c.first_piece.result.1 c.args.text.now c.in-Some.rest.now c.first_piece.result.0.now c.loop-left.picks.items
    split c.first_piece.ensures.cut c.in_default-number.ensures (search rules) picks spells

pub returns-clause-picks : goal.returns-clause-picks
returns-clause-picks g c =
    let split : pieces c.args.text.now ≡ map decimal c.loop-left.picks.items =
    c.loop-left.invariant.split ∙ ap (λ o. map decimal c.loop-left.picks.items ++ left_pieces o) c.in_default.is ∙ append-nil (map decimal c.loop-left.picks.items) in
    record {
      short = omega arith;
      fit = c.loop-left.invariant.fit;
      spelled = spelled_by c.args.text.now c.loop-left.picks.items split;
    }

pub returns-clause-alone : goal.returns-clause-alone
returns-clause-alone g c picks spells =
    let split : pieces c.args.text.now ≡ map decimal c.loop-left.picks.items =
    c.loop-left.invariant.split ∙ ap (λ o. map decimal c.loop-left.picks.items ++ left_pieces o) c.in_default.is ∙ append-nil (map decimal c.loop-left.picks.items) in
    let mine : SpellsPicks c.args.text.now c.loop-left.picks.items = record {
      short = omega arith;
      fit = c.loop-left.invariant.fit;
      spelled = spelled_by c.args.text.now c.loop-left.picks.items split;
    } in
    spelled_once c.args.text.now picks c.loop-left.picks.items spells mine

pub returns-then-is_empty-clause-alone : goal.returns-then-is_empty-clause-alone
returns-then-is_empty-clause-alone g c picks spells =
    let bare : length c.args.text.now ≡ 0 = search rules in
    spelled_by_none c.args.text.now picks c.new-picks.result.items bare c.new-picks.ensures.items spells
