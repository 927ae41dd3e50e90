use Rattle.std.proofs.Common.{◌≡◌, ◌∙◌, ap, subst}
use Rattle.std.specs.Prelude.{slice_get}
use Rattle.std.specs.Option.{option_map}
use Rattle.tn_term.specs.Views.{mfa_seen}
use Rattle.tn_index.specs.Newest.{newest_setting}
use Rattle.std.specs.List.{Contains}
use Rattle.std.proofs.lemmas.List.Elements.{All-contains}
use Rattle.tn_index.specs.Entries.{IsRight}
use Rattle.tn_index.proofs.Renewals.{at_its_place, looked_up}
use Rattle.tn_index.proofs.settings.Settings.get.Goals as goal

pub returns-in_ok-entry-in-Some : goal.returns-in_ok-entry-in-Some
returns-in_ok-entry-in-Some g c =
    let found : option_map (λ k. k.now) c.get.result ≡ slice_get c.self.inside.accepted.items c.in_ok-entry-in-Some.field-0 =
    looked_up _ _ c.get.result c.get.ensures.lookup ∙ ap (λ ks. slice_get ks c.in_ok-entry-in-Some.field-0) c.deref-in-Some.ensures.value in
    let right = All-contains (IsRight c.self.inside.accepted.items) c.self.inside.entries.items c.in-Some.entry.now c.self.invariant (subst (λ es. Contains es c.in-Some.entry.now) c.deref.ensures.value c.in-Some.ensures.among) in
    found ∙ at_its_place _ c.in-Some.entry.now _ _ _ right c.in-Some.ensures.its (c.in_ok-entry-in-Some.was) ∙ ap (λ ks. newest_setting ks (mfa_seen c.args.function.now) c.args.exported) c.self.view_is
