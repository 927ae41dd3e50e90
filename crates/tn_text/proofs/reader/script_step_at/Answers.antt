use Rattle.std.proofs.Common.{true, map, sym, subst}
use Rattle.tn_term.specs.Views.{tree_of}
use Rattle.def_text.specs.Reading.{inside, step}
use Rattle.def_text.specs.ScriptReading.{reading, script_step}
use Rattle.tn_text.specs.Stack.{position_of, frames_of, read_state_of, ScriptStepsAt}
use Rattle.tn_text.proofs.Scripts.{script_inside}
use Rattle.tn_text.proofs.reader.script_step_at.Goals as goal

pub returns-in-Inside : goal.returns-in-Inside
returns-in-Inside g c = λ at s.
    let terms = c.args.terms.now.items in
    let from = c.args.token.from in
    subst (λ p. ScriptStepsAt c.step_at.result terms from (script_step 32 true (reading (map tree_of terms) (read_state_of p)) s.spanned.token)) (sym c.in-Inside.is)
    (script_inside c.step_at.result terms from (step 32 true (inside (position_of c.in-Inside.place) (frames_of c.in-Inside.frames.items)) s.spanned.token) (c.step_at.ensures at s))
