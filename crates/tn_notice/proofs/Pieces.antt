-- Lines as the pieces that are written one after another.
use Rattle.std.proofs.Common.{◌≡◌, ℕ, List, ◌++◌, Option, Some, codes, decimal, ap, ◌∙◌, append_assoc}
use Rattle.def_notice.specs.FaultTexts.{output_text, of_listings, of_expectation, fault_text}
use Rattle.def_notice.specs.DifferenceTexts.{expected_output, found_output, two_lines, numbered_line, output_difference_text}
use Rattle.def_notice.specs.NoticeTexts.{InputText, input_text_name, both_from_input, NodeCommand, node_command_text, no_value, no_message, messages_text, pick_of_nobody, node_moves, notice_text}

-- each of three, four and more texts after the first
of_three : (a b c : List ℕ) → a ++ b ++ c ≡ a ++ (b ++ c)
of_three a b c = append_assoc a b c

of_four : (a b c d : List ℕ) → a ++ b ++ c ++ d ≡ a ++ (b ++ (c ++ d))
of_four a b c d = append_assoc (a ++ b) c d ∙ of_three a b (c ++ d)

of_five : (a b c d e : List ℕ) → a ++ b ++ c ++ d ++ e ≡ a ++ (b ++ (c ++ (d ++ e)))
of_five a b c d e = append_assoc (a ++ b ++ c) d e ∙ of_four a b c (d ++ e)

of_six : (a b c d e f : List ℕ) → a ++ b ++ c ++ d ++ e ++ f ≡ a ++ (b ++ (c ++ (d ++ (e ++ f))))
of_six a b c d e f = append_assoc (a ++ b ++ c ++ d) e f ∙ of_five a b c d (e ++ f)

pub pieces_of_output : (bytes : List ℕ) (most : ℕ) → output_text bytes most ≡ codes "fault output: the output has " ++ (bytes ++ (codes " bytes, and --max-output is " ++ decimal most))
pieces_of_output bytes most = of_four (codes "fault output: the output has ") bytes (codes " bytes, and --max-output is ") (decimal most)

pub pieces_of_listings : (most : ℕ) → fault_text (of_listings most) ≡ codes "fault output: the output has more than " ++ (decimal most ++ (codes " bytes, and --max-output is " ++ decimal most))
pieces_of_listings most = pieces_of_output (codes "more than " ++ decimal most) most

pub pieces_of_expectation : (most : ℕ) → fault_text (of_expectation most) ≡ codes "fault expect: the file has more than " ++ (decimal most ++ (codes " bytes, and --max-output is " ++ decimal most))
pieces_of_expectation most = of_four (codes "fault expect: the file has more than ") (decimal most) (codes " bytes, and --max-output is ") (decimal most)

pub pieces_of_two_lines : (n : ℕ) (one other : List ℕ) → output_difference_text (two_lines n one other)
    ≡ codes "expected line " ++ (decimal n ++ (codes ": " ++ (one ++ (codes "\nfound line " ++ (decimal n ++ (codes ": " ++ other))))))
pieces_of_two_lines n one other =
    let after = decimal n ++ codes ": " ++ other in
    append_assoc (numbered_line expected_output n (Some one)) (codes "\n") (numbered_line found_output n (Some other))
    ∙ of_five (codes "expected line ") (decimal n) (codes ": ") one (codes "\nfound line " ++ after)
    ∙ ap (λ t. codes "expected line " ++ (decimal n ++ (codes ": " ++ (one ++ (codes "\nfound line " ++ t))))) (of_three (decimal n) (codes ": ") other)

pub pieces_of_value : (text option reason : List ℕ) → notice_text (no_value text option reason)
    ≡ codes "error: invalid value '" ++ (text ++ (codes "' for '" ++ (option ++ (codes "': " ++ (reason ++ codes "\n\nFor more information, try '--help'.")))))
pieces_of_value text option reason =
    let end = codes "\n\nFor more information, try '--help'." in
    append_assoc (codes "error: invalid value '" ++ text ++ codes "' for '" ++ option ++ codes "': ") reason end
    ∙ of_six (codes "error: invalid value '") text (codes "' for '") option (codes "': ") (reason ++ end)

pub pieces_of_pick : (n pick : ℕ) → notice_text (pick_of_nobody n pick)
    ≡ codes "note: pick " ++ (decimal n ++ (codes " is " ++ (decimal pick ++ codes ", and no process has that pid: pids are 100 to 163, and 0 takes the next command")))
pieces_of_pick n pick =
    of_five (codes "note: pick ") (decimal n) (codes " is ") (decimal pick) (codes ", and no process has that pid: pids are 100 to 163, and 0 takes the next command")

pub pieces_of_moves : (n m : ℕ) (c : NodeCommand) → notice_text (node_moves n m c)
    ≡ codes "note: a running node differs at " ++ (decimal n ++ (codes " of " ++ (decimal m ++ (codes " moves; " ++ (node_command_text c ++ codes " shows where")))))
pieces_of_moves n m c =
    let end = codes " shows where" in
    append_assoc (codes "note: a running node differs at " ++ decimal n ++ codes " of " ++ decimal m ++ codes " moves; ") (node_command_text c) end
    ∙ of_six (codes "note: a running node differs at ") (decimal n) (codes " of ") (decimal m) (codes " moves; ") (node_command_text c ++ end)

pub pieces_of_inputs : (one other : InputText) → notice_text (both_from_input one other)
    ≡ codes "error: the " ++ (input_text_name one ++ (codes " and the " ++ (input_text_name other ++ codes " can't both be standard input")))
pieces_of_inputs one other = of_five (codes "error: the ") (input_text_name one) (codes " and the ") (input_text_name other) (codes " can't both be standard input")

pub pieces_of_message : (session : List ℕ) (n : ℕ) (messages : Option ℕ) → notice_text (no_message session n messages)
    ≡ codes "error: the session " ++ (session ++ (codes " sends no message " ++ (decimal n ++ messages_text messages)))
pieces_of_message session n messages = of_five (codes "error: the session ") session (codes " sends no message ") (decimal n) (messages_text messages)
