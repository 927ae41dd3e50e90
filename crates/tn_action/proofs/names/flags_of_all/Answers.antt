use Rattle.std.proofs.Common.{◌∙◌, ◌+◌, sym, ap, arith}
use Rattle.std.specs.Option.{option_map}
use Rattle.def_spec.specs.Flags.{flags_named, union}
use Rattle.tn_flags.specs.Views.{flags_of}
use Rattle.tn_guard.specs.Views.{value_seen, list_view_seen}
use Rattle.tn_guard.proofs.Places.{rest_from, rest_here, rest_past, rest_of_all}
use Rattle.tn_action.proofs.FlagLists.{none_before, named_go_on, named_fault, named_done}
use Rattle.tn_action.proofs.names.flags_of_all.Goals as goal

pub loop-place-init : goal.loop-place-init
loop-place-init g c =
    let ts = list_view_seen c.args.parts in
    ap (λ f. option_map (union f) (flags_named (rest_from 0 ts))) c.none-flags.ensures ∙ none_before (flags_named (rest_from 0 ts)) ∙ ap flags_named (rest_of_all ts)

pub loop-place-preserved : goal.loop-place-preserved
loop-place-preserved g c =
    let ts = list_view_seen c.args.parts in
    named_go_on _ _ (value_seen c.at.result) (flags_of c.loop-place.flags) (flags_of c.in-Some.flag) _ _ (rest_here ts c.loop-place.place (value_seen c.at.result) c.at.ensures)
    (sym (ap (option_map flags_of) c.in-Some.is) ∙ c.flag_in.ensures) c.join-flags.ensures c.loop-place.invariant

pub returns-in-None : goal.returns-in-None
returns-in-None g c =
    let ts = list_view_seen c.args.parts in
    named_fault _ (rest_from (c.loop-place.place + 1) ts) (value_seen c.at.result) (flags_of c.loop-place.flags) _ (rest_here ts c.loop-place.place (value_seen c.at.result) c.at.ensures)
    (sym (ap (option_map flags_of) c.in-None.is) ∙ c.flag_in.ensures) c.loop-place.invariant

pub returns : goal.returns
returns g c =
    let ts = list_view_seen c.args.parts in
    named_done _ (flags_of c.loop-place.flags) _ (rest_past ts c.loop-place.place (omega (arith, c.loop-place-test.false, c.len-place-end.ensures.counted))) c.loop-place.invariant
