use Rattle.std.proofs.Common.{◌≡◌, drop}
use Rattle.def_explain.specs.ReasonTexts.{options_hint_text}
use Rattle.tn_term.specs.Views.{trees_of}
use Rattle.tn_command_reason.proofs.command_reason_texts.other_options.Given as goal

abbrev pub invariant-loop-i : goal.invariant-loop-i
invariant-loop-i g l = options_hint_text (trees_of (drop l.i l.fn.terms.items)) ≡ options_hint_text (trees_of l.fn.terms.items)
