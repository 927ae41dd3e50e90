use Rattle.std.proofs.Common.{◌≡◌, ◌++◌, take}
use Rattle.def_script.specs.Script.{creations}
use Rattle.def_run.specs.Listing.{messages, listings_text}
use Rattle.tn_live.specs.Journal.{picks_of}
use Rattle.tn_pool.proofs.assembly.append_listings.Given as goal

abbrev pub invariant-loop-number : goal.invariant-loop-number
invariant-loop-number g l =
    l.text.items ≡ l.initial.text.items ++ listings_text (λ s. messages s g.J.JournalName.program (picks_of l.closed)) (take l.number (creations g.J.JournalName.program.commands))
