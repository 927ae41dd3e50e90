use Rattle.std.proofs.Common.{◌≡◌, ◌∙◌, if◌then◌else◌, [], ◌++◌, true, false, sym, ap, append-nil}
use Rattle.def_term.specs.Alive.{is_alive}
use Rattle.def_term.specs.Tree.{pid}
use Rattle.def_session.specs.State.{flags_at}
use Rattle.def_spec.specs.Flags.{flags_by_name}
use Rattle.def_state.specs.SessionTexts.{flags_among, owner_flags_text}
use Rattle.tn_flags.specs.Views.{flags_of}
use Rattle.tn_session.specs.Looks.{look_seen}
use Rattle.tn_text.proofs.Growth.{written_as}
use Rattle.tn_state.proofs.LineLemmas.{pid_flags}
use Rattle.tn_state.proofs.flags.put_flags_at.Goals as goal

pub returns-then-has : goal.returns-then-has
returns-then-has g c =
    let s = look_seen c.args.look.now in
    let n = c.args.pid in
    let text = owner_flags_text (pid n) (flags_among (flags_at s n) flags_by_name) in
    let lives : is_alive s.alive n ≡ true = sym (ap (λ a. is_alive a n) c.alive.ensures) ∙ sym c.has.ensures ∙ c.if-has.true in
    written_as c.put_flags.result c.args.out.now.items c.put_flags.new.out.items
    (ap (λ b. if b then text else []) lives ∙ sym (ap (λ f. owner_flags_text (pid n) (flags_among f flags_by_name)) c.flags_at.ensures)
    ∙ pid_flags g.row.A.Denot n (flags_among (flags_of c.flags_at.result) flags_by_name))
    c.put_flags.ensures

pub returns-else-has : goal.returns-else-has
returns-else-has g c =
    let s = look_seen c.args.look.now in
    let n = c.args.pid in
    let text = owner_flags_text (pid n) (flags_among (flags_at s n) flags_by_name) in
    let ended : is_alive s.alive n ≡ false = sym (ap (λ a. is_alive a n) c.alive.ensures) ∙ sym c.has.ensures ∙ c.if-has.false in
    sym (append-nil c.args.out.now.items) ∙ ap (λ b. c.args.out.now.items ++ (if b then text else [])) (sym ended)
