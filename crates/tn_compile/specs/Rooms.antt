-- That the registers of a clause fit.
use Rattle.std.specs.Prelude.{◌+◌, ◌<◌, ◌^◌}
use Rattle.def_machine.specs.Compilation.{registers_taken}
use Rattle.def_machine.specs.HeadFolds.{fold_head}
use Rattle.tn_spec.specs.Sizes.{exprs_size}
use Rattle.tn_spec.specs.Views.{exprs_seen, head_seen}
use Rattle.tn_spec.specs.declared.spec.Clause.{Clause}

-- those of the head, of the conditions and of the body
pub record HasRoomFor {A : Type 0} (k : Clause A) : Type 0 where
  pub conditions : 2 + registers_taken (fold_head (head_seen k.head)) + exprs_size (exprs_seen k.conditions.items) < 2 ^ 64
  pub body : 2 + registers_taken (fold_head (head_seen k.head)) + exprs_size (exprs_seen k.body.items) < 2 ^ 64
