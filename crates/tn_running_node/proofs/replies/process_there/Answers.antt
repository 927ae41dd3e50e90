use Rattle.std.proofs.Common.{◌≡◌, ◌∙◌, Bool, if◌then◌else◌, Option, Some, sym, ap, ap₂}
use Rattle.std.specs.Option.{option_map}
use Rattle.def_spec.specs.Flags.{no_flags, flags_listed}
use Rattle.def_session.specs.Commands.{number_term, procs_of, how_of}
use Rattle.def_term.specs.Tree.{Tree}
use Rattle.tn_term.specs.Views.{tree_of}
use Rattle.tn_flags.specs.Views.{flags_of}
use Rattle.tn_session.specs.Procs.{procs_seen}
use Rattle.tn_session.specs.Sessions.{SessionValue, value_in, with_new_process_flags}
use Rattle.tn_running_node.proofs.CommandsThere.{flags_done}
use Rattle.tn_running_node.proofs.replies.process_there.Goals as goal
use Rattle.tn_running_node.proofs.replies.process_there.Goals.{then-clears_new_flags, else-clears_new_flags}

pub returns : goal.returns
returns g c = λ v at.
    let r = tree_of c.args.reply in
    let m = c.in-Some-Some-Some in
    let F : Bool → Bool → Option SessionValue × Tree = λ x y. (Some (if x then with_new_process_flags no_flags v else v), if y then number_term 0 else r) in
    let read = flags_done v r (procs_of (tree_of c.args.procs.now)) (how_of (tree_of c.args.how.now)) (flags_listed (tree_of c.args.flags.now)) (procs_seen m.procs) m.on m.none
    m.ensures m.ensures' m.ensures'' in
    elim c.if-clears_new_flags.branch [
      | then-clears_new_flags w ↦
          let left : value_in c.if-clears_new_flags.session ≡ Some (with_new_process_flags no_flags v) =
          ap value_in w.session-is ∙ w.set_new_process_flags.ensures ∙ ap (option_map (with_new_process_flags (flags_of w.none.result))) at
          ∙ ap (λ f. Some (with_new_process_flags f v)) w.none.ensures in
          read ∙ ap₂ F (sym c.clears_new_flags.ensures ∙ w.if-clears_new_flags.true) (sym c.counts_nobody.ensures ∙ c.if-counts_nobody.false) ∙ ap (λ q. (q, r)) (sym left)
      | else-clears_new_flags w ↦
          let left : value_in c.if-clears_new_flags.session ≡ Some v = ap value_in w.session-is ∙ at in
          read ∙ ap₂ F (sym c.clears_new_flags.ensures ∙ w.if-clears_new_flags.false) (sym c.counts_nobody.ensures ∙ c.if-counts_nobody.false) ∙ ap (λ q. (q, r)) (sym left)
    ]
