use Rattle.std.proofs.Common.{refl, ap, ◌∙◌, subst}
use Rattle.def_text.specs.Tokens.{close_brace, close_bracket, comma}
use Rattle.def_text.specs.Scan.{IsTokenOf}
use Rattle.tn_text.specs.Kinds.{kind_of}
use Rattle.tn_text.specs.declared.stack.Progress.TheVariants.{Inside}
use Rattle.tn_text.proofs.TokenKinds.{goes_as}
use Rattle.tn_text.proofs.reader.step_on.Goals as goal

pub returns-in-Inside-Next-default : goal.returns-in-Inside-Next-default
returns-in-Inside-Next-default g c =
    let frames = c.in-Inside-Next-default.frames in
    let inside = c.in-Inside-Next-default.is ∙ ap (λ p. Inside p frames) c.in-Inside-Next-default.field-0-is in
    λ rest t is of. goes_as c.enter.result c.args.progress _ t t inside refl (c.enter.ensures rest t is of)

pub returns-in-CloseBrace : goal.returns-in-CloseBrace
returns-in-CloseBrace g c =
    let frames = c.in-Inside-First-default.frames in
    let inside = c.in-Inside-First-default.is ∙ ap (λ p. Inside p frames) c.in-Inside-First-default.field-0-is in
    λ rest t is of.
    let e = subst (λ k. IsTokenOf (kind_of k) c.args.bytes.now rest t) c.in-CloseBrace.is of in
    goes_as c.close.result c.args.progress _ t close_brace inside e c.close.ensures

pub returns-in-CloseBracket : goal.returns-in-CloseBracket
returns-in-CloseBracket g c =
    let frames = c.in-Inside-First-default.frames in
    let inside = c.in-Inside-First-default.is ∙ ap (λ p. Inside p frames) c.in-Inside-First-default.field-0-is in
    λ rest t is of.
    let e = subst (λ k. IsTokenOf (kind_of k) c.args.bytes.now rest t) c.in-CloseBracket.is of in
    goes_as c.close-in-CloseBracket.result c.args.progress _ t close_bracket inside e c.close-in-CloseBracket.ensures

pub returns-in-CloseBrace-kind : goal.returns-in-CloseBrace-kind
returns-in-CloseBrace-kind g c =
    let frames = c.in-Inside-Behind-default.frames in
    let inside = c.in-Inside-Behind-default.is ∙ ap (λ p. Inside p frames) c.in-Inside-Behind-default.field-0-is in
    λ rest t is of.
    let e = subst (λ k. IsTokenOf (kind_of k) c.args.bytes.now rest t) c.in-CloseBrace-kind.is of in
    goes_as c.close-in-CloseBrace-kind.result c.args.progress _ t close_brace inside e c.close-in-CloseBrace-kind.ensures

pub returns-in-CloseBracket-kind : goal.returns-in-CloseBracket-kind
returns-in-CloseBracket-kind g c =
    let frames = c.in-Inside-Behind-default.frames in
    let inside = c.in-Inside-Behind-default.is ∙ ap (λ p. Inside p frames) c.in-Inside-Behind-default.field-0-is in
    λ rest t is of.
    let e = subst (λ k. IsTokenOf (kind_of k) c.args.bytes.now rest t) c.in-CloseBracket-kind.is of in
    goes_as c.close-in-CloseBracket-kind.result c.args.progress _ t close_bracket inside e c.close-in-CloseBracket-kind.ensures

pub returns-in-Comma : goal.returns-in-Comma
returns-in-Comma g c =
    let frames = c.in-Inside-Behind-default.frames in
    let inside = c.in-Inside-Behind-default.is ∙ ap (λ p. Inside p frames) c.in-Inside-Behind-default.field-0-is in
    λ rest t is of.
    let e = subst (λ k. IsTokenOf (kind_of k) c.args.bytes.now rest t) c.in-Comma.is of in
    goes_as c.comma.result c.args.progress _ t comma inside e c.comma.ensures
