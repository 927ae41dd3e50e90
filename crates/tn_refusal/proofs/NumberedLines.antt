-- The lines of the rules' refusals: their numbers have one or two digits.
use Rattle.std.proofs.Common.{◌≡◌, ℕ, List, ◌++◌, decimal, codes, ap, arith}
use Rattle.std.proofs.lemmas.Fmt.{decimal_digit}
use Rattle.itoa.proofs.Decimal.{decimal_two}
use Rattle.def_script.specs.Rules.{Rule, duplicate, undeclared, not_exported, unbound, tracer_taken, wrong_arity, past_limit, rule_number}
use Rattle.def_script.specs.Script.{rule_words}

-- the line with this text of the rule's number
abbrev pub line_with : Rule → ℕ → List ℕ → List ℕ
line_with r n number = codes "refused " ++ number ++ codes " " ++ rule_words r ++ codes " in form " ++ decimal n

abbrev pub rule_digits_text : Rule → List ℕ
rule_digits_text duplicate = codes "7"
rule_digits_text undeclared = codes "8"
rule_digits_text not_exported = codes "9"
rule_digits_text unbound = codes "10"
rule_digits_text tracer_taken = codes "11"
rule_digits_text wrong_arity = codes "12"
rule_digits_text past_limit = codes "13"

pub rule_digits : (r : Rule) → decimal (rule_number r) ≡ rule_digits_text r
rule_digits duplicate = decimal_digit 7 (omega arith)
rule_digits undeclared = decimal_digit 8 (omega arith)
rule_digits not_exported = decimal_digit 9 (omega arith)
rule_digits unbound = decimal_two 10 (omega arith) (omega arith)
rule_digits tracer_taken = decimal_two 11 (omega arith) (omega arith)
rule_digits wrong_arity = decimal_two 12 (omega arith) (omega arith)
rule_digits past_limit = decimal_two 13 (omega arith) (omega arith)

pub line_of_rule : (r : Rule) (n : ℕ) → line_with r n (decimal (rule_number r)) ≡ line_with r n (rule_digits_text r)
line_of_rule r n = ap (line_with r n) (rule_digits r)
