-- The words of each refusal's rule (own).
-- Depends on the refusals of scripts.
use Rattle.std.specs.Prelude.{ℕ, List, codes}
use Rattle.def_script.specs.Rules as rules
use Rattle.def_script.specs.Script.{Refusal, too_long, token, too_deep, too_large, form, too_many_forms, broken, bad_picks}

-- the words of a static rule
abbrev pub rule_text : rules.Rule → List ℕ
rule_text rules.duplicate = codes "declared twice"
rule_text rules.undeclared = codes "not declared"
rule_text rules.not_exported = codes "not exported"
rule_text rules.unbound = codes "variable not bound"
rule_text rules.tracer_taken = codes "tracer taken"
rule_text rules.wrong_arity = codes "wrong number of arguments"
rule_text rules.past_limit = codes "at most 64 functions, 64 steps in each, 16 processes, 256 commands, 128 sessions"

-- the words of a refusal's rule, with its limit
abbrev pub words : Refusal → List ℕ
words too_long = codes "a script has at most 1048576 bytes"
words (token at) = codes "syntax error"
words (too_deep at) = codes "terms nest at most 32 levels deep"
words (too_large at) = codes "integers have 64 bits, atoms 255 characters, tuples 255 elements, lists 4096"
words (form n) = codes "no form has this shape"
words too_many_forms = codes "a script has at most 256 forms"
words (broken r n) = rule_text r
words bad_picks = codes "picks are numbers up to 4294967295 with one space between each two"
