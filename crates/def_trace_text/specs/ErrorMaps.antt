-- The map in `{error_info,Map}`, which the stack trace of an error of a BIF has (the type `stacktrace_extrainfo()` of the module `erlang` of OTP 27). A model of a node has no maps: in a trace this one is the empty list (own).
-- Depends on the parts of a line, and on the text of a line's message.
use Rattle.std.specs.Prelude.{ℕ, zero, suc, ◌+◌, ◌-◌, ◌==◌, Bool, false, ◌&&◌, ◌||◌, List, [], ◌∷◌, ◌++◌, drop, Option, None, if◌then◌else◌, nat_eq, codes}
use Rattle.std.specs.Option.{is_none}
use Rattle.std.specs.List.{prefix_len, starts_with}
use Rattle.def_text.specs.Tokens.{is_blank}
use Rattle.def_trace_text.specs.DbgFormats.{quote_after, escapes_next, part_length}
use Rattle.def_trace_text.specs.DbgLines.{trace_line_text}

-- a number sign is in the text, and not between quotes; this is the quote whose end is to come
abbrev pub has_sign : Option ℕ → Bool → List ℕ → Bool
has_sign quote escaped [] = false
has_sign quote escaped (b ∷ bs) = (is_none quote && (b == 35)) || has_sign (quote_after quote escaped b) (escapes_next quote escaped b) bs

-- how many bytes are before the value, where the text begins with `{error_info,`; blanks may be before it
abbrev pub value_offset : List ℕ → ℕ
value_offset text = 12 + prefix_len is_blank (drop 12 text)

-- the text begins with `{error_info,` and a map
abbrev pub begins_error_map : List ℕ → Bool
begins_error_map text = starts_with nat_eq text (codes "{error_info,") && starts_with nat_eq (drop (value_offset text) text) (codes "#{")

-- how many bytes there are up to the end of the map: up to the first bracket that is neither between quotes nor in a tuple, a list or a map
abbrev pub error_map_length : List ℕ → ℕ
error_map_length text = value_offset text + 2 + part_length 125 None false 0 (drop (value_offset text + 2) text) + 1

-- the text after so many bytes of it, with `{error_info,[]` for each `{error_info,` and a map that is not between quotes
abbrev pub without_maps : ℕ → Option ℕ → Bool → List ℕ → List ℕ
without_maps n quote escaped [] = []
without_maps zero quote escaped (b ∷ bs) =
    if is_none quote && begins_error_map (b ∷ bs)
    then codes "{error_info,[]" ++ without_maps (error_map_length (b ∷ bs) - 1) None false bs
    else b ∷ without_maps 0 (quote_after quote escaped b) (escapes_next quote escaped b) bs
without_maps (suc n) quote escaped (b ∷ bs) = without_maps n quote escaped bs

-- the text with the empty list for the map of each error
abbrev pub without_error_maps : List ℕ → List ℕ
without_error_maps text = without_maps 0 None false text

-- the text of the message that a line of either kind stands for, so
abbrev pub trace_message_text : List ℕ → List ℕ
trace_message_text line = without_error_maps (trace_line_text line)
