-- What the code's reasons why a term is no form stand for.
-- Depends on the reasons why a term is no form.
use Rattle.std.specs.Prelude.{Bool, true, false, List, Option}
use Rattle.std.specs.Option.{option_map}
use Rattle.def_term.specs.Tree.{Tree}
use Rattle.def_wording.specs.ShapeTexts as reasons
use Rattle.tn_term.specs.Views.{tree_of}
use Rattle.tn_refusal.specs.declared.part_reasons.PartReason.{PartReason}
use Rattle.tn_refusal.specs.declared.part_reasons.PartReason.TheVariants.{UnfitPart, OtherCount, TooMany}
use Rattle.tn_refusal.specs.declared.shape_reasons.ShapelessReason.{ShapelessReason}
use Rattle.tn_refusal.specs.declared.shape_reasons.ShapelessReason.TheVariants.{OfPart, OfStep, OfCommand}

-- why a part doesn't fit
abbrev pub part_reason_seen : {A : Type 0} → PartReason A → reasons.PartReason
part_reason_seen (UnfitPart part must_be t) = reasons.unfit_part part.now must_be.now (tree_of t.now)
part_reason_seen (OtherCount shape wanted there) = reasons.other_count shape.now wanted there
part_reason_seen (TooMany words n) = reasons.too_many words.now n

-- where it doesn't
abbrev pub part_reasons_seen : {A : Type 0} → Option (PartReason A) → Option reasons.PartReason
part_reasons_seen r = option_map part_reason_seen r

-- why a term is no form
abbrev pub shapeless_reason_seen : {A : Type 0} → ShapelessReason A → reasons.ShapelessReason
shapeless_reason_seen (OfPart r) = reasons.of_part (part_reason_seen r)
shapeless_reason_seen (OfStep n r) = reasons.of_step n (part_reason_seen r)
shapeless_reason_seen (OfCommand n r) = reasons.of_command n (part_reason_seen r)

-- where it is none
abbrev pub shapeless_reasons_seen : {A : Type 0} → Option (ShapelessReason A) → Option reasons.ShapelessReason
shapeless_reasons_seen r = option_map shapeless_reason_seen r

-- why a part of a form doesn't fit, as a reason why a term is none
abbrev pub of_parts : Option reasons.PartReason → Option reasons.ShapelessReason
of_parts r = option_map reasons.of_part r

-- why a term isn't what is called: {M,F}, or F where that may be local
abbrev pub called_reason_of : Bool → Tree → Option reasons.PartReason
called_reason_of true t = reasons.called_reason t
called_reason_of false t = reasons.callee_reason t

-- the first of the terms that is no step, and why
abbrev pub listed_steps_reason : List Tree → Option reasons.ShapelessReason
listed_steps_reason ts = reasons.items_reason reasons.of_step reasons.step_shape_reason ts

-- the first of the terms that is no command, and why
abbrev pub listed_commands_reason : List Tree → Option reasons.ShapelessReason
listed_commands_reason ts = reasons.items_reason reasons.of_command reasons.command_shape_reason ts
