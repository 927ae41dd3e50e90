use Rattle.std.proofs.Common.{◌≡◌, ◌<◌, ◌^◌, ◌∷◌, [], ◌∙◌, ap, sym, subst, map, reverse}
use Rattle.def_machine.specs.Instructions.{end_without_match}
use Rattle.def_machine.specs.Compilation.{clauses_code, code_from}
use Rattle.def_machine.specs.ExprFolds.{folded_clause}
use Rattle.def_machine.specs.Validity.{Valid}
use Rattle.tn_code.specs.Views.{instructions_of}
use Rattle.tn_spec.specs.Sizes.{clauses_size}
use Rattle.tn_spec.specs.Views.{clause_seen, dialect_of}
use Rattle.tn_spec.specs.Wholes.{spec_seen}
use Rattle.tn_compile.specs.Emissions.{clauses_emitted}
use Rattle.tn_compile.specs.Places.{JumpsInside}
use Rattle.tn_compile.specs.Views.{code_left}
use Rattle.tn_compile.proofs.Whole.{clauses-are, sound-jumps, sound-valid}
use Rattle.tn_compile.proofs.clauses.compile.Goals as goal

pub emit_clauses-requires : goal.emit_clauses-requires
emit_clauses-requires g c = subst (λ xs. clauses_size (map clause_seen xs) < 2 ^ 32) (sym c.as_slice.ensures.value) c.args.spec.now.bounded

pub in_places-requires : goal.in_places-requires
in_places-requires g c =
    let d = dialect_of c.args.spec.now.dialect in
    let ks = map clause_seen c.args.spec.now.clauses.items in
    let first : code_left c.emit.new.code ≡ end_without_match ∷ [] = c.in_ok-emit.ensures.emitted ∙ ap (λ xs. end_without_match ∷ instructions_of (reverse xs)) c.new-code.ensures.items in
    let emitted : code_left c.emit_clauses.new.code ≡ clauses_code d (map folded_clause ks) =
    c.in_ok-emit_clauses.ensures ∙ ap (λ xs. clauses_emitted d (map clause_seen xs) (code_left c.emit.new.code)) c.as_slice.ensures.value ∙ ap (clauses_emitted d ks) first ∙ clauses-are d ks in
    subst JumpsInside (sym emitted) (sound-jumps d (spec_seen c.args.spec.now) c.args.spec.now.sound)

pub of-requires : goal.of-requires
of-requires g c =
    let d = dialect_of c.args.spec.now.dialect in
    let ks = map clause_seen c.args.spec.now.clauses.items in
    let first : code_left c.emit.new.code ≡ end_without_match ∷ [] = c.in_ok-emit.ensures.emitted ∙ ap (λ xs. end_without_match ∷ instructions_of (reverse xs)) c.new-code.ensures.items in
    let emitted : code_left c.emit_clauses.new.code ≡ clauses_code d (map folded_clause ks) =
    c.in_ok-emit_clauses.ensures ∙ ap (λ xs. clauses_emitted d (map clause_seen xs) (code_left c.emit.new.code)) c.as_slice.ensures.value ∙ ap (clauses_emitted d ks) first ∙ clauses-are d ks in
    subst Valid (sym (c.in_ok-items.ensures ∙ ap (code_from 0) emitted)) (sound-valid (spec_seen c.args.spec.now) c.args.spec.now.sound)

pub returns : goal.returns
returns g c =
    let d = dialect_of c.args.spec.now.dialect in
    let ks = map clause_seen c.args.spec.now.clauses.items in
    let first : code_left c.emit.new.code ≡ end_without_match ∷ [] = c.in_ok-emit.ensures.emitted ∙ ap (λ xs. end_without_match ∷ instructions_of (reverse xs)) c.new-code.ensures.items in
    let emitted : code_left c.emit_clauses.new.code ≡ clauses_code d (map folded_clause ks) =
    c.in_ok-emit_clauses.ensures ∙ ap (λ xs. clauses_emitted d (map clause_seen xs) (code_left c.emit.new.code)) c.as_slice.ensures.value ∙ ap (clauses_emitted d ks) first ∙ clauses-are d ks in
    c.of.ensures ∙ c.in_ok-items.ensures ∙ ap (code_from 0) emitted
