use Rattle.std.proofs.Common.{◌≡◌, [], ◌∷◌, ◌++◌, ap, sym, ◌∙◌, option_to_list}
use Rattle.std.specs.Option.{option_map}
use Rattle.def_term.specs.Text.{is_among}
use Rattle.tn_script.specs.Views.{step_of}
use Rattle.tn_program.specs.Variables.{target_names}
use Rattle.tn_program.proofs.BoundVariables.{adds_one}
use Rattle.tn_program.proofs.variables.bind.Goals as goal

pub returns-in_ok-insert-in-Some : goal.returns-in_ok-insert-in-Some
returns-in_ok-insert-in-Some g c =
    let names : target_names (step_of {A = g.row.A.Denot} c.args.step.now) ≡ c.text.result.now ∷ [] =
    ap option_to_list (sym c.target_of.ensures ∙ ap (option_map (λ a. a.now)) c.in-Some.is) ∙ ap (λ n. n ∷ []) (sym c.text.ensures.text) in
    λ xs same q. adds_one c.args.bound.now c.insert.new.self c.text.result.now _ c.in_ok-insert-in-Some.ensures.updates xs same q ∙ ap (λ ws. is_among (xs ++ ws) q) (sym names)
