use Rattle.std.proofs.Common.{◌≡◌, ◌+◌, ◌≤◌, length}
use Rattle.std.specs.Option.{option_map}
use Rattle.def_formats.specs.Sections.{section_lines}
use Rattle.def_formats.specs.Summaries.{load_of}
use Rattle.tn_formats.proofs.load.load_of.Given as goal

-- the load so far and that of what is left are the whole load, and no more bytes were counted than are gone
abbrev pub invariant-loop-line : goal.invariant-loop-line
invariant-loop-line l =
    ((load_of (option_map (λ k. k.now) l.kind) (section_lines l.text)).messages ≡ l.load.messages + (load_of (option_map (λ k. k.now) l.kind) (section_lines l.rest)).messages)
    × ((load_of (option_map (λ k. k.now) l.kind) (section_lines l.text)).bytes ≡ l.load.bytes + (load_of (option_map (λ k. k.now) l.kind) (section_lines l.rest)).bytes)
    × (l.load.messages + length l.rest ≤ length l.text) × (l.load.bytes + length l.rest ≤ length l.text)

abbrev pub decreases-loop-line : goal.decreases-loop-line
decreases-loop-line l = length l.rest
