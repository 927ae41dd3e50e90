use Rattle.std.proofs.Common.{◌≡◌, ◌∙◌, ◌++◌, ap, map}
use Rattle.def_explore.specs.Output.{kept_listings, session_texts}
use Rattle.def_formats.specs.Summaries.{summary_of}
use Rattle.tn_messages.specs.MessageViews.{kept_seen}
use Rattle.tn_answers.specs.AnswerViews.{session_name_seen}
use Rattle.tn_answers.proofs.entry.put_summary.Goals as goal

pub returns : goal.returns
returns g c =
    let old = c.args.out.now.items in
    let texts = session_texts (map session_name_seen c.args.sessions.now) (kept_listings (kept_seen c.args.kept.now)) in
    let listings : c.put_kept.new.out.items ≡ texts = c.in_ok-put_kept.ensures ∙ ap (λ xs. xs ++ texts) c.new-listings.ensures.items in
    c.in_ok-extend_from_slice.ensures.items ∙ ap (λ xs. old ++ xs) (c.deref-2.ensures.value ∙ c.in_ok-summary.ensures ∙ ap summary_of (c.deref.ensures.value ∙ listings))
