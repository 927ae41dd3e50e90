use Rattle.std.proofs.Common.{◌∙◌, sym, ap}
use Rattle.def_spec.specs.Flags.{flags_by_name}
use Rattle.def_state.specs.SessionTexts.{flags_among, owner_flags_text}
use Rattle.tn_session.specs.Looks.{look_seen}
use Rattle.tn_term.specs.Views.{tree_of}
use Rattle.tn_text.proofs.Growth.{written_as}
use Rattle.tn_state.proofs.flags.put_new_flags.Goals as goal

pub returns : goal.returns
returns g c =
    let s = look_seen c.args.look.now in
    written_as c.put_flags.result c.args.out.now.items c.put_flags.new.out.items
    (sym (ap (λ t. owner_flags_text t (flags_among s.new_process_flags flags_by_name)) c.in_ok-owner.ensures)
    ∙ sym (ap (λ f. owner_flags_text (tree_of c.in_ok-owner.owner) (flags_among f flags_by_name)) c.new_process_flags.ensures))
    c.put_flags.ensures
