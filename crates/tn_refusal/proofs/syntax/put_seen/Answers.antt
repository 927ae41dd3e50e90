use Rattle.tn_text.proofs.Growth.{on_done}
use Rattle.tn_refusal.specs.TextViews.{read_states_seen, text_item_seen}
use Rattle.tn_refusal.proofs.syntax.put_seen.Goals as goal

pub returns-in-Misplaced : goal.returns-in-Misplaced
returns-in-Misplaced g c =
    rw c.in-Misplaced.is (on_done c.put_misplaced.result (λ e. record { standing = read_states_seen c.args.seen.standing; found = text_item_seen c.args.seen.found; characters = 0; told = e }) c.put_misplaced.ensures)

pub returns-in-Deep : goal.returns-in-Deep
returns-in-Deep g c =
    rw c.in-Deep.is (on_done c.put_deep.result (λ e. record { standing = read_states_seen c.args.seen.standing; found = text_item_seen c.args.seen.found; characters = 0; told = e }) c.put_deep.ensures)

pub returns-in-Large : goal.returns-in-Large
returns-in-Large g c =
    rw c.in-Large.is (on_done c.put_large.result (λ e. record { standing = read_states_seen c.args.seen.standing; found = text_item_seen c.args.seen.found; characters = c.characters_in-characters.result; told = e }) c.put_large.ensures)
