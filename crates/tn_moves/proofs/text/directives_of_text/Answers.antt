use Rattle.std.proofs.Common.{◌≡◌, ◌∙◌, ◌+◌, ◌++◌, ◌∷◌, [], length, map, subst, sym, ap, rules, arith}
use Rattle.std.proofs.lemmas.List.{map-append}
use Rattle.tn_program.specs.Views.{program_of}
use Rattle.tn_moves.specs.Directives.{directive_seen}
use Rattle.tn_moves.specs.Pieces.{piece_seen}
use Rattle.tn_moves.specs.Readings.{IsPieceRead}
use Rattle.tn_moves.proofs.Readings.{Reaches, one_more_piece, no_piece, all_pieces, at_end}
use Rattle.tn_moves.proofs.text.directives_of_text.Goals as goal

pub returns-in_default : goal.returns-in_default
returns-in_default g c =
    let l = c.loop-at in
    (omega (arith, c.if-text-gt-MAX_TEXT.false), all_pieces (program_of c.args.program.now) c.args.text.now l.at _ l.invariant c.in_default.ensures.none)

pub returns-in_default-found : goal.returns-in_default-found
returns-in_default-found g c =
    let l = c.loop-at in
    let p = program_of c.args.program.now in
    let x = c.in-Some.piece in
    let none = subst (IsPieceRead p (piece_seen x)) c.in_default-found.is c.in-Ok.ensures in
    (omega (arith, c.if-text-gt-MAX_TEXT.false), no_piece p c.args.text.now l.at _ x l.invariant c.in-Some.ensures.some none)

pub loop-at-preserved : goal.loop-at-preserved
loop-at-preserved g c =
    let l = c.loop-at in
    let p = program_of c.args.program.now in
    let x = c.in-Some.piece in
    let d = c.in-Some-found.directive in
    let piece = subst (IsPieceRead p (piece_seen x)) c.in-Some-found.is c.in-Ok.ensures in
    let next = x.from + length x.mover.now + length x.amount.now in
    let grown : c.push.new.self.items ≡ l.directives.items ++ d ∷ [] = search rules in
    let found : map directive_seen c.push.new.self.items ≡ map directive_seen l.directives.items ++ directive_seen d ∷ [] = ap (map directive_seen) grown ∙ map-append directive_seen l.directives.items (d ∷ []) in
    subst (Reaches p c.args.text.now next) (sym found) (one_more_piece p c.args.text.now l.at _ x l.invariant c.in-Some.ensures.some (directive_seen d) next (omega arith) piece)

pub returns : goal.returns
returns g c =
    let l = c.loop-at in
    (omega (arith, c.if-text-gt-MAX_TEXT.false), at_end (program_of c.args.program.now) c.args.text.now l.at _ l.invariant (omega (arith, c.loop-at-test.false)))
