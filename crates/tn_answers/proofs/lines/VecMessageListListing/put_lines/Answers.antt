use Rattle.std.proofs.Common.{◌≡◌, ◌∙◌, ◌++◌, OnOk, flat_map, map, ap, sym, subst}
use Rattle.std.proofs.lemmas.List.Folds.{flat_map-map}
use Rattle.def_run.specs.Listing.{line_of, lines_of}
use Rattle.tn_messages.specs.MessageViews.{trees_seen}
use Rattle.tn_answers.proofs.Parts.{parts_of_lists}
use Rattle.tn_answers.proofs.lines.VecMessageListListing.put_lines.Goals as goal

pub returns : goal.returns
returns g c =
    subst (λ xs. OnOk c.put_processes.result (c.put_processes.new.out.items ≡ c.args.out.now.items ++ xs))
    (ap (flat_map (λ v. lines_of (trees_seen v))) c.deref.ensures.value ∙ sym (flat_map-map lines_of trees_seen c.args.self.now.items) ∙ sym (parts_of_lists line_of (λ ms. ms) (map trees_seen c.args.self.now.items))) c.put_processes.ensures
