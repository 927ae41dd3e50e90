-- Which texts a request reads from standard input (own), which has one alone.
-- Depends on the parts of a request, and on what is said of two such texts.
use Rattle.std.specs.Prelude.{List, [], ◌∷◌, ◌++◌, Option, Some, None, option_map, option_and_then}
use Rattle.def_notice.specs.NoticeTexts.{InputText, the_script, the_picks, the_moves, the_output, the_listing}
use Rattle.tn_notice.specs.declared.notice.InputText as code
use Rattle.tn_notice.specs.NoticeViews.{input_text_seen}
use Rattle.tn_command.specs.declared.source.Source.{Source}
use Rattle.tn_command.specs.declared.source.Source.TheVariants.{Input, File}
use Rattle.tn_request.specs.declared.request.ExpectationArgs.{ExpectationArgs}
use Rattle.tn_request.specs.declared.request.Request.{Request}
use Rattle.tn_request.specs.declared.request.Request.TheVariants.{Run, Message, Workers, Spec, Fun, Explore}
use Rattle.tn_request.specs.declared.request.TextSource.{TextSource}
use Rattle.tn_request.specs.declared.request.TextSource.TheVariants.{Picks, Moves, Specification, Trace}
use Rattle.tn_request.specs.RequestParts.{run_expectation, script_asked, text_source_asked}

-- the text, where its source is standard input
abbrev pub of_source : Option Source → InputText → Option InputText
of_source None text = None
of_source (Some Input) text = Some text
of_source (Some (File path)) text = None

-- the text beside the script
abbrev pub text_input : Option TextSource → Option InputText
text_input None = None
text_input (Some (Picks source)) = of_source (Some source) the_picks
text_input (Some (Moves source)) = of_source (Some source) the_moves
text_input (Some (Specification source)) = None
text_input (Some (Trace source)) = None

-- the list of what is there
abbrev pub input_list : Option InputText → List InputText
input_list None = []
input_list (Some text) = text ∷ []

-- what is expected
abbrev pub expected_inputs : ExpectationArgs → List InputText
expected_inputs e = input_list (of_source e.output the_output) ++ input_list (of_source (option_map (λ words. words.source) e.session) the_listing)

-- all that a request reads from standard input; of a trial, a fun or an exploration nothing is expected
abbrev pub inputs_asked : Request → List InputText
inputs_asked (Run run) = input_list (of_source (script_asked (Run run)) the_script) ++ input_list (text_input (text_source_asked (Run run))) ++ expected_inputs (run_expectation run)
inputs_asked (Message m) = input_list (of_source (Some m.script) the_script) ++ input_list (text_input (text_source_asked (Message m))) ++ expected_inputs m.expectation
inputs_asked (Workers workers) = input_list (of_source (Some workers.script) the_script) ++ expected_inputs workers.expectation
inputs_asked (Spec trial) = []
inputs_asked (Fun fun) = []
inputs_asked (Explore exploration) = input_list (of_source (Some exploration.script) the_script)

-- the first two of these texts
abbrev pub first_two : List InputText → Option (InputText × InputText)
first_two [] = None
first_two (one ∷ []) = None
first_two (one ∷ other ∷ more) = Some (one, other)

-- those of a request
abbrev pub shared_input : Request → Option (InputText × InputText)
shared_input r = first_two (inputs_asked r)

-- ---- of the code

abbrev pub both_inputs : Option InputText → Option InputText → Option (InputText × InputText)
both_inputs one other = option_and_then (λ a. option_map (λ b. (a, b)) other) one

-- the first two of four that may be there
abbrev pub first_two_of_four : (a b c d : Option InputText) → Option (InputText × InputText)
first_two_of_four a b c d = first_two (input_list a ++ input_list b ++ (input_list c ++ input_list d))

abbrev pub input_pair_seen : code.InputText × code.InputText → InputText × InputText
input_pair_seen p = (input_text_seen p.0, input_text_seen p.1)
