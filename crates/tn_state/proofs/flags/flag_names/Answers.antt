use Rattle.std.proofs.Common.{◌∙◌, ◌++◌, codes, drop, map, sym, ap, append-nil}
use Rattle.def_spec.specs.Flags.{flags_by_name, send_flag, receive_flag, call_flag, procs_flag, silent_flag, arity_flag, set_on_spawn, set_on_first_spawn, set_on_link, set_on_first_link}
use Rattle.def_state.specs.SessionTexts.{flags_among}
use Rattle.tn_flags.specs.Views.{flags_of}
use Rattle.tn_term.specs.Views.{tree_of}
use Rattle.tn_state.proofs.FlagTexts.{one_flag}
use Rattle.tn_state.proofs.flags.flag_names.Goals as goal

pub returns : goal.returns
returns g c =
    let f = flags_of c.args.flags in
    let none = map tree_of c.new-names.result.items in
    let first = map tree_of c.push_flag.new.names.items in
    let second = map tree_of c.push_flag-2.new.names.items in
    let third = map tree_of c.push_flag-3.new.names.items in
    let fourth = map tree_of c.push_flag-4.new.names.items in
    let fifth = map tree_of c.push_flag-5.new.names.items in
    let sixth = map tree_of c.push_flag-6.new.names.items in
    let seventh = map tree_of c.push_flag-7.new.names.items in
    let eighth = map tree_of c.push_flag-8.new.names.items in
    let ninth = map tree_of c.push_flag-9.new.names.items in
    let tenth = map tree_of c.push_flag-10.new.names.items in
    sym (append-nil tenth)
    ∙ one_flag f (codes "set_on_first_link", set_on_first_link) (drop 10 flags_by_name) ninth tenth c.in_ok-push_flag-10.ensures
    ∙ one_flag f (codes "set_on_link", set_on_link) (drop 9 flags_by_name) eighth ninth c.in_ok-push_flag-9.ensures
    ∙ one_flag f (codes "set_on_first_spawn", set_on_first_spawn) (drop 8 flags_by_name) seventh eighth c.in_ok-push_flag-8.ensures
    ∙ one_flag f (codes "set_on_spawn", set_on_spawn) (drop 7 flags_by_name) sixth seventh c.in_ok-push_flag-7.ensures
    ∙ one_flag f (codes "arity", arity_flag) (drop 6 flags_by_name) fifth sixth c.in_ok-push_flag-6.ensures
    ∙ one_flag f (codes "silent", silent_flag) (drop 5 flags_by_name) fourth fifth c.in_ok-push_flag-5.ensures
    ∙ one_flag f (codes "procs", procs_flag) (drop 4 flags_by_name) third fourth c.in_ok-push_flag-4.ensures
    ∙ one_flag f (codes "call", call_flag) (drop 3 flags_by_name) second third c.in_ok-push_flag-3.ensures
    ∙ one_flag f (codes "receive", receive_flag) (drop 2 flags_by_name) first second c.in_ok-push_flag-2.ensures
    ∙ one_flag f (codes "send", send_flag) (drop 1 flags_by_name) none first c.in_ok-push_flag.ensures
    ∙ ap (λ ns. map tree_of ns ++ flags_among f flags_by_name) c.new-names.ensures.items
