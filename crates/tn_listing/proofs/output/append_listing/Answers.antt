use Rattle.std.proofs.Common.{◌≡◌, ◌∙◌, ◌++◌, [], refl, sym, ap}
use Rattle.std.specs.Option.{option_map}
use Rattle.def_run.specs.Listing.{header_line}
use Rattle.tn_program.specs.Views.{program_of}
use Rattle.tn_trace.specs.Transcripts.{transcript_of}
use Rattle.tn_listing.proofs.OutputLemmas.{none_listed, one_listed, nothing_there}
use Rattle.tn_listing.proofs.output.append_listing.Goals as goal

pub returns-in_default-lines : goal.returns-in_default-lines
returns-in_default-lines g c = λ picks are.
    let p = program_of c.args.program.now in
    none_listed p picks c.args.number (transcript_of p picks) c.args.text.now.items refl (sym (ap (option_map (λ v. v.items)) c.in_default-lines.is) ∙ are)

pub returns : goal.returns
returns g c = λ picks are.
    let p = program_of c.args.program.now in
    one_listed p picks c.args.number (transcript_of p picks) c.in-Some-lines.lines.items (c.in-Some.name.now, c.in-Some.tracer.now) c.args.text.now.items c.put_header.new.out.items c.extend_from_slice.new.self.items
    refl (sym (ap (option_map (λ v. v.items)) c.in-Some-lines.is) ∙ are) c.in-Some.ensures c.in_ok-put_header.ensures.ok (c.in_ok-extend_from_slice.ensures.items ∙ ap (λ l. c.put_header.new.out.items ++ l) c.deref.ensures.value)

pub returns-then-is_empty : goal.returns-then-is_empty
returns-then-is_empty g c = λ picks are.
    let p = program_of c.args.program.now in
    let head = header_line c.in-Some.name.now c.in-Some.tracer.now in
    let none : c.args.text.now.items ≡ [] = nothing_there c.args.text.now c.if-is_empty.ensures c.args.text.now.ok.0 in
    one_listed p picks c.args.number (transcript_of p picks) c.in-Some-lines.lines.items (c.in-Some.name.now, c.in-Some.tracer.now) c.args.text.now.items head c.put_header_before.new.lines.items
    refl (sym (ap (option_map (λ v. v.items)) c.in-Some-lines.is) ∙ are) c.in-Some.ensures (sym (ap (λ t. t ++ head) none)) c.in_ok-put_header_before.ensures
