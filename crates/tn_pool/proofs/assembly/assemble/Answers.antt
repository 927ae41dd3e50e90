use Rattle.std.proofs.Common.{◌≡◌, ◌∙◌, sym, ap, subst, map}
use Rattle.def_run.specs.Run.{moves}
use Rattle.def_run.specs.Listing.{lines_of}
use Rattle.tn_text.specs.WrittenTrees.{written_tree}
use Rattle.tn_live.specs.Journal.{picks_of}
use Rattle.tn_listing.proofs.OutputLemmas.{all_parts, whole_run}
use Rattle.tn_pool.proofs.assembly.assemble.Goals as goal

pub returns-clause-text : goal.returns-clause-text
returns-clause-text g c =
    let p = g.J.JournalName.program in
    let entered = picks_of c.args.closed.now in
    let picked : c.in_ok-picks.picks.items ≡ entered = c.in_ok-picks.ensures.picks in
    let moved : moves p entered ≡ entered = subst (λ ks. moves p ks ≡ ks) picked c.in_ok-picks.ensures.moved in
    whole_run p entered (lines_of (map written_tree c.replies.result.now)) c.deref.result.now c.push.new.self.items (ap lines_of c.replies.ensures) (c.deref.ensures.value ∙ picked ∙ sym moved)
    (all_parts c.in_ok-text.text.items c.append_listings.new.text.items c.extend_from_slice.new.self.items c.lines_text.new.out.items c.extend_from_slice-2.new.self.items c.write_picks.new.out.items c.push.new.self.items
    _ _ _ _ _ _
    c.in_ok-text.ensures.items c.in_ok-taken.ensures c.in_ok-extend_from_slice.ensures.items
    c.in_ok-lines_text.ensures.ok
    c.in_ok-extend_from_slice-2.ensures.items
    c.in_ok-write_picks.ensures.ok
    c.in_ok-push.ensures.items)
