use Rattle.std.proofs.Common.{◌∙◌, sym, ap, ◌≤◌, ◌++◌, arith, rules, subst, append-nil}
use Rattle.def_term.specs.Text.{comma_list}
use Rattle.def_term.specs.Tree.{count}
use Rattle.tn_text.proofs.Growth.{grows_on}
use Rattle.tn_guard.specs.Views.{value_seen, list_view_seen}
use Rattle.tn_guard.proofs.Places.{rest_past, rest_of_all, nth_depth}
use Rattle.tn_guard.proofs.Texts.{grows_by, grows_same, first_part, next_part, all_parts}
use Rattle.tn_guard.proofs.value_text.+write.Goals as goal

pub put_enclosed-returns-in_err-push-clause-grows : goal.put_enclosed-returns-in_err-push-clause-grows
put_enclosed-returns-in_err-push-clause-grows g t c = grows_same (search rules)

pub put_parts-returns-then-len-eq0-clause-ok : goal.put_parts-returns-then-len-eq0-clause-ok
put_parts-returns-then-len-eq0-clause-ok g t c =
    let ts = list_view_seen c.args.parts in
    let over : count ts ≤ 0 = omega (arith, c.len.ensures.counted, c.if-len-eq0.true) in
    sym (append-nil c.args.out.now.items) ∙ ap (λ us. c.args.out.now.items ++ comma_list us) (sym (sym (rest_of_all ts) ∙ rest_past ts 0 over))

pub put_parts-write_value-requires : goal.put_parts-write_value-requires
put_parts-write_value-requires g t c =
    let shallow = nth_depth (list_view_seen c.args.parts) 0 (value_seen c.at.result) c.at.ensures in
    λ κs within. (omega (arith, c.decreases), within)

pub put_parts-loop-i-init : goal.put_parts-loop-i-init
put_parts-loop-i-init g t c =
    record {
      written = first_part (list_view_seen c.args.parts) (value_seen c.at.result) c.args.out.now.items c.write_value.new.out.items c.at.ensures c.in_ok-write_value.ensures.ok;
      grows = c.write_value.ensures.grows;
    }

pub put_parts-write_value-requires-in-loop-i : goal.put_parts-write_value-requires-in-loop-i
put_parts-write_value-requires-in-loop-i g t c =
    let shallow = nth_depth (list_view_seen c.args.parts) c.loop-i.i (value_seen c.at-in-loop-i.result) c.at-in-loop-i.ensures in
    λ κs within. (omega (arith, c.decreases), within)

pub put_parts-loop-i-preserved : goal.put_parts-loop-i-preserved
put_parts-loop-i-preserved g t c =
    record {
      written = next_part (list_view_seen c.args.parts) c.loop-i.i (value_seen c.at-in-loop-i.result) c.loop-i.out.items c.push.new.self.items c.write_value-in-loop-i.new.out.items _ c.at-in-loop-i.ensures c.loop-i.invariant.written c.in_ok-push.ensures.items c.in_ok-write_value-2.ensures.ok;
      grows = grows_on c.loop-i.invariant.grows (grows_on (grows_by _ c.in_ok-push.ensures.items) c.write_value-in-loop-i.ensures.grows);
    }

pub put_parts-returns-clause-ok : goal.put_parts-returns-clause-ok
put_parts-returns-clause-ok g t c =
    let ts = list_view_seen c.args.parts in
    let over : count ts ≤ c.loop-i.i = subst (λ n. n ≤ c.loop-i.i) c.len-i-end.ensures.counted c.loop-i-test.false in
    all_parts ts c.loop-i.i c.loop-i.out.items (c.args.out.now.items ++ comma_list ts) over c.loop-i.invariant.written
