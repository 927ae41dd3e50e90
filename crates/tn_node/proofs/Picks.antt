-- What a pick gives, by what was picked.
use Rattle.std.proofs.Common.{◌≡◌, ℕ, zero, suc, ◌+◌, ◌<◌, ◌≤◌, true, false, cond, Option, Some, ap, sym, ◌∙◌, arith}
use Rattle.std.specs.Prelude.{nat_lt}
use Rattle.std.proofs.lemmas.Bool.Decides.{nat_tests}
use Rattle.def_node.specs.Node.{Move, PickResult, pick_result, next_of, of_move, gives_command, gives_nothing}
use Rattle.tn_node.specs.Nodes.{NodeValue, PickAnswer, next_node, answers_command, answers_nothing}

lt_true : (a b : ℕ) → a < b → nat_lt a b ≡ true
lt_true a b h = grind (arith, nat_tests)

lt_false : (a b : ℕ) → b ≤ a → nat_lt a b ≡ false
lt_false a b h = grind (arith, nat_tests)

-- the node once so many commands were taken, and the command that was the last of them
abbrev takes : NodeValue → ℕ → Option NodeValue × PickAnswer
takes n k = (Some (record n { state = record n.state { taken = k } }), answers_command k)

-- the node after a pick
abbrev pub after_pick : NodeValue → ℕ → Option NodeValue × PickAnswer
after_pick n pick = next_node n (pick_result n.functions n.commands n.state pick)

pub control_more : (n : NodeValue) → n.state.taken < n.commands → after_pick n 0 ≡ takes n (n.state.taken + 1)
control_more n below =
    let k : ℕ = suc n.state.taken in
    let more : PickResult = gives_command (record n.state { taken = k }) k in
    ap (λ b. next_node n (cond b more (gives_nothing n.state))) (lt_true n.state.taken n.commands below) ∙ ap (takes n) (omega arith)

pub control_done : (n : NodeValue) → n.commands ≤ n.state.taken → after_pick n 0 ≡ (Some n, answers_nothing)
control_done n past =
    let k : ℕ = suc n.state.taken in
    let more : PickResult = gives_command (record n.state { taken = k }) k in
    ap (λ b. next_node n (cond b more (gives_nothing n.state))) (lt_false n.state.taken n.commands past)

pub process_pick : (n : NodeValue) (pid : ℕ) (m : Move) → 0 < pid → m ≡ next_of n.functions n.state.world pid → after_pick n pid ≡ next_node n (of_move n.state m)
process_pick n zero m positive moved = absurd (omega arith)
process_pick n (suc k) m positive moved = sym (ap (λ x. next_node n (of_move n.state x)) moved)
