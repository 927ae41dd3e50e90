-- What a trial that is asked for is of (own).
use Rattle.std.specs.Prelude.{◌≡◌, ◌==◌, ◌||◌, ℕ, Bool, if◌then◌else◌, List, [], ◌∷◌, reverse, Option, Some, None, option_map, codes}
use Rattle.std.specs.Borrow.{Bor}
use Rattle.std.specs.Str.{bytes_eq}
use Rattle.tn_verdict.specs.declared.spec_test_input.SpecTestInput.{SpecTestInput}
use Rattle.tn_request.specs.declared.request.SpecTestArgs.{SpecTestArgs}

-- a byte that may stand after a full stop: a blank, a tab, a line feed, or a carriage return
abbrev pub is_end_blank : ℕ → Bool
is_end_blank c = (c == 32) || (c == 9) || (c == 10) || (c == 13)

-- of a text whose last byte is first: without a full stop, and without the blanks after it
abbrev pub after_stop : (whole left : List ℕ) → List ℕ
after_stop whole [] = whole
after_stop whole (c ∷ cs) = if is_end_blank c then after_stop whole cs else if c == 46 then cs else whole

-- a text without a full stop at its end; the text, where it has none
abbrev pub without_full_stop : List ℕ → List ℕ
without_full_stop text = reverse (after_stop (reverse text) (reverse text))

-- the text of the specification: the one that was read where a file has it, where none is given or where `-` is, else that of
-- the words
abbrev pub spec_words_asked : (file specification : Option (Bor (List ℕ))) → (read : List ℕ) → List ℕ
spec_words_asked (Some path) specification read = read
spec_words_asked None None read = read
spec_words_asked None (Some words) read = if bytes_eq words.now (codes "-") then read else words.now

-- it may end with a full stop
abbrev pub spec_text_asked : (file specification : Option (Bor (List ℕ))) → (read : List ℕ) → List ℕ
spec_text_asked file specification read = without_full_stop (spec_words_asked file specification read)

-- the words of the trial, and the text of its specification
pub record IsTrialAsked (trial : SpecTestArgs) (read : List ℕ) (input : SpecTestInput) : Type 0 where
  pub dialect : input.dialect ≡ trial.dialect
  pub self_pid : input.self_pid ≡ trial.self_pid
  pub caller : option_map (λ text. text.now) input.caller ≡ option_map (λ words. words.now) trial.caller
  pub spec : input.spec.now ≡ spec_text_asked trial.file trial.specification read
