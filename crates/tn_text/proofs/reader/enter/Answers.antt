use Rattle.std.proofs.Common.{subst}
use Rattle.def_text.specs.Tokens.{open_brace, open_bracket}
use Rattle.def_text.specs.Scan.{IsTokenOf}
use Rattle.tn_text.specs.Kinds.{kind_of}
use Rattle.tn_text.specs.Stack.{frames_of}
use Rattle.tn_text.proofs.TokenKinds.{enters_as, enters_integer, enters_pid, enters_bare, enters_quoted, enters_string}
use Rattle.tn_text.proofs.reader.enter.Goals as goal

pub returns-in-Bare : goal.returns-in-Bare
returns-in-Bare g c = λ rest t is of.
    let u = c.args.bytes.now in
    let b = subst (λ k. IsTokenOf (kind_of k) u rest t) c.in-Bare.is of in
    enters_bare c.put_atom.result u rest b.0 t (frames_of c.args.frames.items) c.put_atom.ensures b.1 b.2

pub returns-in-Quoted : goal.returns-in-Quoted
returns-in-Quoted g c = λ rest t is of.
    let u = c.args.bytes.now in
    let q = subst (λ k. IsTokenOf (kind_of k) u rest t) c.in-Quoted.is of in
    enters_quoted c.put_quoted.result u q.0 t (frames_of c.args.frames.items) c.put_quoted.ensures q.1 q.2

pub returns-in-Integer : goal.returns-in-Integer
returns-in-Integer g c = λ rest t is of.
    let u = c.args.bytes.now in
    let p = subst (λ k. IsTokenOf (kind_of k) u rest t) c.in-Integer.is of in
    enters_integer c.put_integer.result u rest p.0 t (frames_of c.args.frames.items) c.put_integer.ensures p.1 is

pub returns-in-Pid : goal.returns-in-Pid
returns-in-Pid g c = λ rest t is of.
    let u = c.args.bytes.now in
    let p = subst (λ k. IsTokenOf (kind_of k) u rest t) c.in-Pid.is of in
    enters_pid c.put_pid.result u rest p.0 t (frames_of c.args.frames.items) c.put_pid.ensures p.1 is

pub returns-in-Characters : goal.returns-in-Characters
returns-in-Characters g c = λ rest t is of.
    let u = c.args.bytes.now in
    let p = subst (λ k. IsTokenOf (kind_of k) u rest t) c.in-Characters.is of in
    enters_string c.put_string.result u rest p.0 t (frames_of c.args.frames.items) c.put_string.ensures p.1 is

pub returns-in-OpenBrace : goal.returns-in-OpenBrace
returns-in-OpenBrace g c = λ rest t is of.
    let e = subst (λ k. IsTokenOf (kind_of k) c.args.bytes.now rest t) c.in-OpenBrace.is of in
    enters_as c.open.result t open_brace (frames_of c.args.frames.items) e c.open.ensures

pub returns-in-OpenBracket : goal.returns-in-OpenBracket
returns-in-OpenBracket g c = λ rest t is of.
    let e = subst (λ k. IsTokenOf (kind_of k) c.args.bytes.now rest t) c.in-OpenBracket.is of in
    enters_as c.open-in-OpenBracket.result t open_bracket (frames_of c.args.frames.items) e c.open-in-OpenBracket.ensures
