use Rattle.std.proofs.Common.{◌≡◌, ◌+◌, ◌-◌, ◌∙◌, ◌||◌, drop, refl, sym, ap, ap₂, arith}
use Rattle.def_spec.specs.Flags.{no_flags, union, flags_named}
use Rattle.def_explain.specs.NodeCommands.{flags_can_differ, listed_can_differ}
use Rattle.tn_term.specs.Views.{tree_of}
use Rattle.tn_term.proofs.Trees.{seen, past}
use Rattle.tn_flags.specs.Views.{flags_of}
use Rattle.tn_session.proofs.FlagNames.{named_more, named_none}
use Rattle.tn_replay.proofs.NodeFlags.{one_of_both, turned}
use Rattle.tn_replay.proofs.node_commands.named_can_differ.Goals as goal

pub loop-left-init : goal.loop-left-init
loop-left-init g c =
    let v = c.args.items.now in
    let v_len = v.ok.0 in
    let e = c.len-left.ensures in
    (omega (arith, v_len, e), (no_flags, ap flags_named (past tree_of v.items c.len-left.result (omega (arith, v_len, e))), refl))

pub loop-left-preserved : goal.loop-left-preserved
loop-left-preserved g c =
    let v = c.args.items.now in
    let l = c.loop-left in
    let some_left = c.loop-left-test.true in
    let within = l.invariant.0 in
    let f = l.invariant.1.0 in
    let a = flags_of c.in-Some.flag in
    let back : (l.left - 1) + 1 ≡ l.left = omega arith in (
      omega arith,
      (
        union a f,
        named_more tree_of v.items (l.left - 1) c.index.result.now a f (union a f) (omega arith) c.index.ensures (sym c.in-Some.ensures) (ap (λ k. flags_named (seen tree_of (drop k v.items))) back ∙ l.invariant.1.1) refl,
        ap₂ (λ x y. x || y) l.invariant.1.2 c.flags_can_differ-differs.ensures ∙ turned (flags_can_differ f) (flags_can_differ a) ∙ sym (one_of_both a f),
      ),
    )

pub returns-in-None : goal.returns-in-None
returns-in-None g c =
    let v = c.args.items.now in
    let l = c.loop-left in
    let some_left = c.loop-left-test.true in
    let within = l.invariant.0 in
    sym (ap listed_can_differ (named_none tree_of v.items (l.left - 1) c.index.result.now (omega arith) c.index.ensures (sym c.in-None.ensures)))
