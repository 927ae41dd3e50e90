use Rattle.std.proofs.Common.{refl}
use Rattle.def_term.specs.Text.{is_written_bare}
use Rattle.tn_command_reason.proofs.Choices.{where_true, where_false}
use Rattle.tn_command_reason.proofs.command_reason_texts.near_inherited_flag.Goals as goal

pub returns-then-is_near-2 : goal.returns-then-is_near-2
unfolding is_written_bare
returns-then-is_near-2 c = where_false _ c.is_near.ensures c.if-is_near.false (where_true _ c.is_near-2.ensures c.if-is_near-2.true)

pub returns-then-is_near-3 : goal.returns-then-is_near-3
unfolding is_written_bare
returns-then-is_near-3 c = where_false _ c.is_near.ensures c.if-is_near.false (where_false _ c.is_near-2.ensures c.if-is_near-2.false (where_true _ c.is_near-3.ensures c.if-is_near-3.true))

pub returns-then-is_near-4 : goal.returns-then-is_near-4
unfolding is_written_bare
returns-then-is_near-4 c = where_false _ c.is_near.ensures c.if-is_near.false (where_false _ c.is_near-2.ensures c.if-is_near-2.false (where_false _ c.is_near-3.ensures c.if-is_near-3.false (where_true _ c.is_near-4.ensures c.if-is_near-4.true)))

pub returns : goal.returns
returns c = where_false _ c.is_near.ensures c.if-is_near.false (where_false _ c.is_near-2.ensures c.if-is_near-2.false (where_false _ c.is_near-3.ensures c.if-is_near-3.false (where_false _ c.is_near-4.ensures c.if-is_near-4.false (refl))))
