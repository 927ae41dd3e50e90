use Rattle.std.proofs.Common.{[], ◌∷◌, decimal}
use Rattle.std.specs.Prelude.{codes}
use Rattle.def_explore.specs.Output.{spaced_picks}
use Rattle.tn_answers.proofs.Parts.{seven_parts}
use Rattle.tn_answers.proofs.entry.put_entry_line.Goals as goal

pub returns : goal.returns
returns g c =
    seven_parts c.args.out.now.items c.extend_from_slice.new.self.items c.write_decimal.new.out.items c.extend_from_slice-2.new.self.items c.write_decimal-2.new.out.items c.extend_from_slice-3.new.self.items c.put_picks.new.out.items c.push.new.self.items
    (codes "== listing ") (decimal c.args.number) (codes " of ") (decimal c.args.count) (codes ": journal") (spaced_picks c.args.journal.now) (10 ∷ [])
    c.in_ok-extend_from_slice.ensures.items c.in_ok-write_decimal.ensures.ok c.in_ok-extend_from_slice-2.ensures.items c.in_ok-write_decimal-2.ensures.ok c.in_ok-extend_from_slice-3.ensures.items c.in_ok-put_picks.ensures c.in_ok-push.ensures.items
