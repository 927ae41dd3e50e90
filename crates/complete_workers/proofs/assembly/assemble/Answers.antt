use Rattle.std.proofs.Common.{◌≡◌, ◌∙◌, ap₂, sym}
use Rattle.def_run.specs.Listing.{program_output}
use Rattle.tn_live.specs.Journal.{picks_of}
use Rattle.complete_runs.proofs.Both.{both_if_ok}
use Rattle.complete_workers.proofs.assembly.assemble.Goals as goal

pub returns-clause-text : goal.returns-clause-text
returns-clause-text g c =
    both_if_ok (λ a. a.text.items ≡ program_output g.J.JournalName.program (picks_of c.args.one.now)) (λ b. b.text.items ≡ program_output g.K.JournalName.program (picks_of c.args.other.now)) (λ a b. a.text.items ≡ b.text.items)
    (λ a b k l. k ∙ ap₂ program_output c.requires.programs c.requires.picks ∙ sym l)
    c.assemble-first.result c.assemble-second.result c.assemble-first.ensures.text c.assemble-second.ensures.text

pub returns-clause-picks : goal.returns-clause-picks
returns-clause-picks g c =
    both_if_ok (λ a. a.picks.items ≡ picks_of c.args.one.now) (λ b. b.picks.items ≡ picks_of c.args.other.now) (λ a b. a.picks.items ≡ b.picks.items)
    (λ a b k l. k ∙ c.requires.picks ∙ sym l)
    c.assemble-first.result c.assemble-second.result c.assemble-first.ensures.picks c.assemble-second.ensures.picks
