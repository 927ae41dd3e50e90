use Rattle.std.proofs.Common.{◌≡◌, ◌∙◌, suc, subst, ap, Some, arith}
use Rattle.std.specs.Prelude.{slice_get}
use Rattle.def_script.specs.Program.{Program}
use Rattle.def_script.specs.Script.{creations}
use Rattle.tn_trace.specs.Cores.{Lists}
use Rattle.tn_live.specs.Journal.{picks_of}
use Rattle.tn_pool.proofs.Listings.{terms_listed, if_ok_of}
use Rattle.tn_pool.proofs.assembly.append_listing.Goals as goal

pub returns : goal.returns
returns g c =
    let p = g.J.JournalName.program in
    let picks = picks_of c.args.closed.now in
    let named : Some (c.in-Some.name.now, c.in-Some.tracer.now) ≡ slice_get (creations p.commands) c.args.number =
    c.in-Some.ensures ∙ ap (λ (q : Program). slice_get (creations q.commands) c.args.number) c.program.ensures in
    let number : c.in-Some-checked_add.session ≡ suc c.args.number = omega (arith, c.in-Some-checked_add.ensures, c.in-Ok.ensures) in
    let lent : Lists p picks (suc c.args.number) (Some c.in-Some-listing.messages) =
    subst (λ n. Lists p picks n (Some c.in-Some-listing.messages)) number c.in-Some-listing.ensures in
    if_ok_of _ _ c.append_lines.result
    (λ taken added. terms_listed p picks c.args.number c.in-Some-listing.messages (c.in-Some.name.now, c.in-Some.tracer.now) c.args.text.now.items c.listing_text.new.out.items c.append_lines.new.text.items lent named c.in_ok-listing_text.ensures.ok added)
    c.append_lines.ensures
