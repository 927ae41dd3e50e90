use Rattle.std.proofs.Common.{[], ◌∷◌, map, ap, sym, ◌∙◌}
use Rattle.std.specs.Option.{option_map}
use Rattle.std.proofs.lemmas.List.{map-append}
use Rattle.def_node.specs.Process.{mfa_at}
use Rattle.tn_term.specs.Views.{mfa_seen}
use Rattle.tn_term.specs.SharedTree.{shared_tree}
use Rattle.tn_flags.specs.Views.{event_of}
use Rattle.tn_flags.specs.declared.event.Event.TheVariants.{Raised}
use Rattle.tn_script.specs.Views.{functions_of}
use Rattle.tn_process.specs.Views.{events_of, exception_view}
use Rattle.tn_process.proofs.Exceptions.{gains_none, gains_one}
use Rattle.tn_process.proofs.exception.put_raised.Goals as goal

pub returns-in_default : goal.returns-in_default
returns-in_default g c =
    gains_none c.args.context.now.pid (exception_view c.args.exception.now) c.args.depth (events_of c.args.events.now) (mfa_at (functions_of c.args.context.now.functions.now) c.args.frame.now.function)
    (ap (option_map mfa_seen) (sym c.in_default.is) ∙ c.in_ok-found.ensures)

pub returns : goal.returns
returns g c =
    let es = c.args.events.now.items in
    let e = c.args.exception.now in
    let n = c.args.context.now.pid in
    gains_one n (exception_view e) c.args.depth (events_of c.args.events.now) (events_of c.push.new.self) (mfa_at (functions_of c.args.context.now.functions.now) c.args.frame.now.function) (mfa_seen c.in-Some.mfa) (shared_tree c.in_ok-value.value)
    (ap (option_map mfa_seen) (sym c.in-Some.is) ∙ c.in_ok-found.ensures)
    c.in_ok-value.ensures
    (ap (map event_of) c.in_ok-push.ensures.items ∙ map-append event_of es (Raised n c.in-Some.mfa e.class c.in_ok-value.value c.args.depth ∷ []))
