-- The first two of the texts that a request reads from standard input.
use Rattle.std.proofs.Common.{◌≡◌, ◌∙◌, ap, refl, ℕ, Bool, true, false, List, [], ◌∷◌, ◌++◌, Option, Some, None, if◌then◌else◌}
use Rattle.std.specs.Prelude.{codes}
use Rattle.std.specs.Borrow.{Bor}
use Rattle.std.specs.Option.{option_map, option_or}
use Rattle.std.specs.Str.{bytes_eq}
use Rattle.def_notice.specs.NoticeTexts.{InputText, the_script, the_output, the_listing}
use Rattle.tn_notice.specs.declared.notice.InputText as code
use Rattle.tn_notice.specs.NoticeViews.{input_text_seen}
use Rattle.tn_command.specs.declared.source.Source.{Source}
use Rattle.tn_command.specs.declared.source.Source.TheVariants.{Input}
use Rattle.tn_request.specs.declared.request.TextSource.{TextSource}
use Rattle.tn_request.specs.declared.request.TextSource.TheVariants.{Specification}
use Rattle.tn_request.specs.declared.request.ExpectationArgs.{ExpectationArgs}
use Rattle.tn_request.specs.declared.request.Request.{Request}
use Rattle.tn_request.specs.declared.request.Request.TheVariants.{Run, Message, Workers, Spec, Fun, Explore}
use Rattle.tn_request.specs.InputsAsked.{input_pair_seen, both_inputs, input_list, first_two, first_two_of_four, of_source, text_input, expected_inputs, shared_input}
use Rattle.tn_request.specs.RequestParts.{script_asked, text_source_asked, spec_text_source, trace_source, IsRequestExpectation, IsAnyOutput}

-- ---- of four texts

by_turns : (a b c d : Option InputText) → option_or (option_or (both_inputs a b) (both_inputs (option_or a b) c)) (both_inputs (option_or (option_or a b) c) d)
    ≡ first_two (input_list a ++ input_list b ++ (input_list c ++ input_list d))
by_turns None None None None = refl
by_turns None None None (Some d) = refl
by_turns None None (Some c) None = refl
by_turns None None (Some c) (Some d) = refl
by_turns None (Some b) None None = refl
by_turns None (Some b) None (Some d) = refl
by_turns None (Some b) (Some c) None = refl
by_turns None (Some b) (Some c) (Some d) = refl
by_turns (Some a) None None None = refl
by_turns (Some a) None None (Some d) = refl
by_turns (Some a) None (Some c) None = refl
by_turns (Some a) None (Some c) (Some d) = refl
by_turns (Some a) (Some b) None None = refl
by_turns (Some a) (Some b) None (Some d) = refl
by_turns (Some a) (Some b) (Some c) None = refl
by_turns (Some a) (Some b) (Some c) (Some d) = refl

map_or : {X Y : Type 0} (f : X → Y) (a b : Option X) → option_map f (option_or a b) ≡ option_or (option_map f a) (option_map f b)
map_or f None b = refl
map_or f (Some a) b = refl

-- what is seen of the first two, by three pairs of which each is seen as a pair
pub first_of_four : (a b c d : Option code.InputText) (one two three : Option (code.InputText × code.InputText))
    → option_map input_pair_seen one ≡ both_inputs (option_map input_text_seen a) (option_map input_text_seen b)
    → option_map input_pair_seen two ≡ both_inputs (option_map input_text_seen (option_or a b)) (option_map input_text_seen c)
    → option_map input_pair_seen three ≡ both_inputs (option_map input_text_seen (option_or (option_or a b) c)) (option_map input_text_seen d)
    → option_map input_pair_seen (option_or (option_or one two) three)
    ≡ first_two_of_four (option_map input_text_seen a) (option_map input_text_seen b) (option_map input_text_seen c) (option_map input_text_seen d)
first_of_four a b c d one two three is_one is_two is_three =
    let f = option_map input_text_seen in
    let either = map_or input_text_seen a b in
    let any = map_or input_text_seen (option_or a b) c ∙ ap (λ x. option_or x (f c)) either in
    map_or input_pair_seen (option_or one two) three
    ∙ ap (λ x. option_or x (option_map input_pair_seen three)) (map_or input_pair_seen one two)
    ∙ ap (λ x. option_or (option_or x (option_map input_pair_seen two)) (option_map input_pair_seen three)) is_one
    ∙ ap (λ x. option_or (option_or (both_inputs (f a) (f b)) x) (option_map input_pair_seen three)) (is_two ∙ ap (λ x. both_inputs x (f c)) either)
    ∙ ap (λ x. option_or (option_or (both_inputs (f a) (f b)) (both_inputs (option_or (f a) (f b)) (f c))) x) (is_three ∙ ap (λ x. both_inputs x (f d)) any)
    ∙ by_turns (f a) (f b) (f c) (f d)

-- ---- of a request

no_more : {X : Type 0} (xs : List X) → xs ++ [] ≡ xs
no_more [] = refl
no_more (x ∷ xs) = ap (λ l. x ∷ l) (no_more xs)

by_test : (b : Bool) → text_input (if b then Some (Specification Input) else None) ≡ None
by_test true = refl
by_test false = refl

-- a specification is read alone
of_specification : (file specification : Option (Bor (List ℕ))) → text_input (spec_text_source file specification) ≡ None
of_specification (Some path) specification = refl
of_specification None None = refl
of_specification None (Some words) = by_test (bytes_eq words.now (codes "-"))

-- a trace is read from a file
of_trace : (path : Option (Bor (List ℕ))) → text_input (trace_source path) ≡ None
of_trace None = refl
of_trace (Some path) = refl

-- nothing is read where nothing is expected
none_expected : (e : ExpectationArgs) → IsAnyOutput e → first_two (expected_inputs e) ≡ None
none_expected e is =
    ap (λ x. first_two (input_list (of_source x the_output) ++ input_list (of_source (option_map (λ words. words.source) e.session) the_listing))) is.output
    ∙ ap (λ x. first_two (input_list (of_source (option_map (λ words. words.source) x) the_listing))) is.session

empty_expected : (e : ExpectationArgs) → IsAnyOutput e → expected_inputs e ≡ []
empty_expected e is =
    ap (λ x. input_list (of_source x the_output) ++ input_list (of_source (option_map (λ words. words.source) e.session) the_listing)) is.output
    ∙ ap (λ x. input_list (of_source (option_map (λ words. words.source) x) the_listing)) is.session

-- the texts by the parts of a request are those of the request
pub texts_by_parts : (r : Request) (e : ExpectationArgs) → IsRequestExpectation r e
    → first_two (input_list (of_source (script_asked r) the_script) ++ input_list (text_input (text_source_asked r)) ++ expected_inputs e) ≡ shared_input r
texts_by_parts (Run run) e is =
    ap (λ x. first_two (input_list (of_source (script_asked (Run run)) the_script) ++ input_list (text_input (text_source_asked (Run run))) ++ expected_inputs x)) is
texts_by_parts (Message m) e is =
    ap (λ x. first_two (input_list (of_source (script_asked (Message m)) the_script) ++ input_list (text_input (text_source_asked (Message m))) ++ expected_inputs x)) is
texts_by_parts (Workers workers) e is =
    let script = input_list (of_source (Some workers.script) the_script) in
    ap (λ x. first_two (x ++ expected_inputs e)) (no_more script)
    ∙ ap (λ x. first_two (script ++ expected_inputs x)) is
texts_by_parts (Spec trial) e is =
    ap (λ x. first_two (input_list x ++ expected_inputs e)) (of_specification trial.file trial.specification) ∙ none_expected e is
texts_by_parts (Fun fun) e is = ap (λ x. first_two (input_list x ++ expected_inputs e)) (of_specification None fun.text) ∙ none_expected e is
texts_by_parts (Explore exploration) e is =
    let script = input_list (of_source (Some exploration.script) the_script) in
    ap (λ x. first_two (script ++ input_list x ++ expected_inputs e)) (of_trace exploration.trace)
    ∙ ap (λ x. first_two (x ++ expected_inputs e)) (no_more script) ∙ ap (λ x. first_two (script ++ x)) (empty_expected e is) ∙ ap first_two (no_more script)

-- the same, by what is seen of the parts
pub texts_seen : (r : Request) (e : ExpectationArgs) (script : Option Source) (text : Option TextSource) (listing : Option Source) (a b c d : Option code.InputText)
    → IsRequestExpectation r e → script ≡ script_asked r → text ≡ text_source_asked r → listing ≡ option_map (λ words. words.source) e.session
    → option_map input_text_seen a ≡ of_source script the_script → option_map input_text_seen b ≡ text_input text
    → option_map input_text_seen c ≡ of_source e.output the_output → option_map input_text_seen d ≡ of_source listing the_listing
    → first_two_of_four (option_map input_text_seen a) (option_map input_text_seen b) (option_map input_text_seen c) (option_map input_text_seen d) ≡ shared_input r
texts_seen r e script text listing a b c d is is_script is_text is_listing one two three four =
    let f = option_map input_text_seen in
    let script_so = of_source (script_asked r) the_script in
    let text_so = text_input (text_source_asked r) in
    ap (λ x. first_two_of_four x (f b) (f c) (f d)) (one ∙ ap (λ x. of_source x the_script) is_script)
    ∙ ap (λ x. first_two_of_four script_so x (f c) (f d)) (two ∙ ap text_input is_text)
    ∙ ap (λ x. first_two_of_four script_so text_so x (f d)) three
    ∙ ap (λ x. first_two_of_four script_so text_so (of_source e.output the_output) x) (four ∙ ap (λ x. of_source x the_listing) is_listing)
    ∙ texts_by_parts r e is
