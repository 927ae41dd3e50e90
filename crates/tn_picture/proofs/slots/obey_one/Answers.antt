use Rattle.std.specs.Option.{option_map}
use Rattle.tn_term.specs.Views.{tree_of, alive_of}
use Rattle.tn_flags.specs.Views.{command_of}
use Rattle.tn_picture.proofs.SlotMessages.{track, tracked, has_obeyed}
use Rattle.tn_picture.proofs.slots.obey_one.Goals as goal

pub returns : goal.returns
returns g c = λ o fs s h.
    let living = alive_of c.args.living in
    let old = c.args.slot.now in
    has_obeyed o living s old h (command_of c.args.command.now) c.obey.new.self (option_map tree_of c.in_ok-obey.field-0) (c.in_ok-obey.ensures o (track o living s old h) fs (tracked o living s old h))
