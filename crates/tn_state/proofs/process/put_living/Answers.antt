use Rattle.std.proofs.Common.{◌≡◌, ◌∙◌, ◌∷◌, [], ◌++◌, ap}
use Rattle.def_outlook.specs.Outlook.{is_waiting}
use Rattle.def_state.specs.Lines.{terms_line}
use Rattle.def_state.specs.ProcessTexts.{frames_text, links_term, messages_term, signal_text, status_term}
use Rattle.tn_process.specs.Views.{process_seen}
use Rattle.tn_script.specs.Views.{functions_of}
use Rattle.tn_text.proofs.Growth.{on_done}
use Rattle.tn_state.proofs.Texts.{text_then}
use Rattle.tn_state.proofs.process.put_living.Goals as goal

pub returns : goal.returns
returns g c =
    let ks = functions_of c.args.functions.now in
    let q = process_seen c.args.process.now in
    let o0 = c.args.out.now.items in
    let o1 = c.put_status.new.out.items in
    let o2 = c.put_frames.new.out.items in
    let o3 = c.put_term.new.out.items in
    let o4 = c.put_term-2.new.out.items in
    let status = terms_line (status_term (is_waiting ks q) ∷ []) in
    let frames = frames_text ks q.frames in
    let messages = terms_line (messages_term q.mailbox ∷ []) in
    let links = terms_line (links_term q.links ∷ []) in
    let first : o1 ≡ o0 ++ status = c.in_ok-put_status.ensures ∙ ap (λ b. o0 ++ terms_line (status_term b ∷ [])) c.is_waiting.ensures in
    let second : o2 ≡ o1 ++ frames = c.in_ok-put_frames.ensures ∙ ap (λ fs. o1 ++ frames_text ks fs) c.frames.ensures in
    let third : o3 ≡ o2 ++ messages = c.in_ok-put_term.ensures ∙ ap (λ t. o2 ++ terms_line (t ∷ [])) (c.in_ok-messages.ensures ∙ ap messages_term c.mailbox.ensures) in
    let fourth : o4 ≡ o3 ++ links = c.in_ok-put_term-2.ensures ∙ ap (λ t. o3 ++ terms_line (t ∷ [])) (c.in_ok-links.ensures ∙ ap links_term c.links.ensures) in
    let front = text_then o0 o3 o4 ((status ++ frames) ++ messages) links (text_then o0 o2 o3 (status ++ frames) messages (text_then o0 o1 o2 status frames first second) third) fourth in
    on_done c.put_signal.result
    (λ last. text_then o0 o4 c.put_signal.new.out.items (((status ++ frames) ++ messages) ++ links) (signal_text q.signal) front (last ∙ ap (λ r. o4 ++ signal_text r) c.signal.ensures))
    c.put_signal.ensures
