use Rattle.std.proofs.Common.{◌≡◌, ◌∙◌, ◌<◌, ◌||◌, length, ap, sym, arith}
use Rattle.def_independence.specs.Alone.{have_link, have_unlink}
use Rattle.tn_program.specs.Views.{program_of}
use Rattle.tn_search.specs.States.{state_journal}
use Rattle.tn_search.proofs.FirstPicks.{neither}
use Rattle.tn_search.proofs.reduction.first_pick.Goals as goal

pub returns-then-branch : goal.returns-then-branch
returns-then-branch g c =
    let s = c.args.state.now in
    let ks = (program_of c.args.program.now).functions in
    let long : length c.journal-made.result.now ≡ length s.run.journal.items = ap length c.journal-made.ensures in
    let room : length (state_journal s) < 65536 = omega (arith, long, c.if-made-ge-JOURNAL.false) in
    let free = neither (have_link ks) (have_unlink ks) (sym (ap (λ fs. have_link fs || have_unlink fs) c.functions.ensures) ∙ sym c.change_links.ensures ∙ c.if-change_links.false) in
    c.in_ok-goes_first.ensures c.if-branch.true (record { links = free.0; unlinks = free.1; room = room }) c.has_processes_alone-by_process_alone.ensures
