use Rattle.std.proofs.Common.{◌≡◌, ◌≤◌, ◌∙◌, ◌+◌, ◌-◌, ap, arith, length, map}
use Rattle.std.proofs.lemmas.List.{length-map}
use Rattle.tn_messages.specs.MessageViews.{message_tree, trees_of_list, shared_lists}
use Rattle.tn_messages.proofs.Additions.{followed, followed_by_none, followed_by_more, followed_long}
use Rattle.tn_messages.proofs.messages_by_process.lengthen.Goals as goal

pub loop-init : goal.loop-init
loop-init g c =
    let n = length c.args.lists.now.items in
    let k : c.len-counter.result - n ≡ 0 = omega (arith, c.len-counter.ensures) in
    (followed_by_none (c.len-counter.result - n) (shared_lists c.args.lists.now) k, omega arith)

pub loop-preserved : goal.loop-preserved
loop-preserved g c =
    let s = c.loop in
    let n = length c.args.lists.now.items in
    let least : n ≤ s.counter = omega (arith, s.auto.counter, c.len-counter.ensures) in
    let next : s.counter + 1 - n ≡ s.counter - n + 1 = omega arith in (
      followed_by_more trees_of_list (s.counter - n) (s.counter + 1 - n) (shared_lists c.args.lists.now) s.lists c.push.new.self c.in_ok-list.list s.invariant.0
          (ap (λ v. map message_tree v.items) c.in_ok-list.ensures.ok ∙ ap (map message_tree) c.new.ensures.items) c.in_ok-push.ensures.items next,
      omega (arith, c.loop-test.true),
    )

pub returns-clause-with_empty : goal.returns-clause-with_empty
returns-clause-with_empty g c =
    let s = c.loop in
    let n = length c.args.lists.now.items in
    let least : n ≤ s.counter = omega (arith, s.auto.counter, c.len-counter.ensures) in
    let most : s.counter - n ≤ c.args.count - n = s.invariant.1 in
    let last : s.counter - n ≡ c.args.count - length (shared_lists c.args.lists.now) = omega (arith, c.loop-test.false, length-map c.args.lists.now.items trees_of_list) in
    s.invariant.0 ∙ ap (λ k. followed k (shared_lists c.args.lists.now)) last

pub returns-clause-long : goal.returns-clause-long
returns-clause-long g c =
    let s = c.loop in
    let n = length c.args.lists.now.items in
    let least : n ≤ s.counter = omega (arith, s.auto.counter, c.len-counter.ensures) in
    let size : length s.lists.items ≡ n + (s.counter - n) = followed_long trees_of_list s.lists c.args.lists.now (s.counter - n) s.invariant.0 in
    omega (arith, c.loop-test.false)
