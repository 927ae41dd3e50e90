use Rattle.std.proofs.Common.{◌≡◌, length, rules}
use Rattle.tn_expectation.proofs.AllLines.{all_lines}
use Rattle.tn_expectation.proofs.alignment.lines_of.Goals as goal

pub returns : goal.returns
returns c =
    let none : length c.loop-rest.rest.now ≡ 0 = search rules in
    all_lines c.loop-rest.lines.items c.reverse.new.self.items c.loop-rest.rest.now c.args.text.now none c.loop-rest.invariant c.reverse.ensures.items
