use Rattle.std.proofs.Common.{◌≡◌, ◌∷◌, ◌++◌, [], arith, rules}
use Rattle.tn_text.proofs.Listing.{ended, end_there, no_token, listed_more}
use Rattle.tn_text.proofs.lexer.tokens.Goals as goal

pub returns-in-End : goal.returns-in-End
returns-in-End g c = ended c.args.bytes.now c.loop-at.at c.loop-at.found.items (omega arith) c.loop-at.invariant.listed c.in-End.ensures

pub returns-in-Bad : goal.returns-in-Bad
returns-in-Bad g c = no_token c.args.bytes.now c.loop-at.at _ c.loop-at.found.items (omega arith) c.loop-at.invariant.listed c.in-Bad.ensures

pub loop-at-preserved : goal.loop-at-preserved
loop-at-preserved g c =
    let grown : c.push.new.self.items ≡ c.loop-at.found.items ++ c.in-Token.token ∷ [] = search rules in
    let there = c.in-Token.ensures in
    record { within = there.fits; listed = listed_more c.args.bytes.now c.loop-at.at c.loop-at.found.items c.push.new.self.items c.in-Token.token grown c.loop-at.invariant.listed there }

pub returns : goal.returns
returns g c = ended c.args.bytes.now c.loop-at.at c.loop-at.found.items (omega arith) c.loop-at.invariant.listed (end_there c.args.bytes.now c.loop-at.at (omega arith))
