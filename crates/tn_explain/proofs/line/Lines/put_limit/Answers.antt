use Rattle.std.proofs.Common.{◌≡◌, Option, Some, OnOk, List, map, sym, subst, rules}
use Rattle.std.specs.Option.{option_map}
use Rattle.def_explain.specs.Accounts.{Line, said}
use Rattle.def_explain.specs.Limits.{said_of_error}
use Rattle.tn_process.specs.declared.outlook.RuntimeError.{RuntimeError}
use Rattle.tn_process.specs.declared.outlook.RuntimeError.TheVariants.{CallsNothing, BuildsPastLimit, CallsPastLimit, SpawnsPastLimit, SendsToNoPid, LinksToNoPid, UnlinksFromNoPid}
use Rattle.tn_process.specs.Outlooks.{error_seen}
use Rattle.tn_explain.specs.Lines.{PutsLines}
use Rattle.tn_explain.proofs.LineTexts.{nothing}
use Rattle.tn_explain.proofs.line.Lines.put_limit.Goals as goal

-- the lines of an error
abbrev lines_of : Option RuntimeError → List Line
lines_of e = map said (said_of_error (option_map error_seen e))

pub returns-in-Some-BuildsPastLimit-clause-ok : goal.returns-in-Some-BuildsPastLimit-clause-ok
returns-in-Some-BuildsPastLimit-clause-ok g c =
    let is : c.args.error ≡ Some BuildsPastLimit = search rules in
    let Puts : Option RuntimeError → Type 0 = λ e. OnOk c.say.result (PutsLines c.args.self.now.name.now (lines_of e) c.args.out.now.items c.say.new.out.items) in
    subst Puts (sym is) c.say.ensures.ok

pub returns-in-Some-CallsPastLimit-clause-ok : goal.returns-in-Some-CallsPastLimit-clause-ok
returns-in-Some-CallsPastLimit-clause-ok g c =
    let is : c.args.error ≡ Some CallsPastLimit = search rules in
    let Puts : Option RuntimeError → Type 0 = λ e. OnOk c.say-in-Some-CallsPastLimit.result (PutsLines c.args.self.now.name.now (lines_of e) c.args.out.now.items c.say-in-Some-CallsPastLimit.new.out.items) in
    subst Puts (sym is) c.say-in-Some-CallsPastLimit.ensures.ok

pub returns-in-Some-SpawnsPastLimit-clause-ok : goal.returns-in-Some-SpawnsPastLimit-clause-ok
returns-in-Some-SpawnsPastLimit-clause-ok g c =
    let is : c.args.error ≡ Some SpawnsPastLimit = search rules in
    let Puts : Option RuntimeError → Type 0 = λ e. OnOk c.say-in-Some-SpawnsPastLimit.result (PutsLines c.args.self.now.name.now (lines_of e) c.args.out.now.items c.say-in-Some-SpawnsPastLimit.new.out.items) in
    subst Puts (sym is) c.say-in-Some-SpawnsPastLimit.ensures.ok

pub returns-in-Some-CallsNothing-clause-ok : goal.returns-in-Some-CallsNothing-clause-ok
returns-in-Some-CallsNothing-clause-ok g c =
    let is : c.args.error ≡ Some CallsNothing = search rules in
    let o = c.args.out.now.items in
    subst (λ e. PutsLines c.args.self.now.name.now (lines_of e) o o) (sym is) (nothing c.args.self.now.name.now o)

pub returns-in-Some-SendsToNoPid-clause-ok : goal.returns-in-Some-SendsToNoPid-clause-ok
returns-in-Some-SendsToNoPid-clause-ok g c =
    let is : c.args.error ≡ Some SendsToNoPid = search rules in
    let o = c.args.out.now.items in
    subst (λ e. PutsLines c.args.self.now.name.now (lines_of e) o o) (sym is) (nothing c.args.self.now.name.now o)

pub returns-in-Some-LinksToNoPid-clause-ok : goal.returns-in-Some-LinksToNoPid-clause-ok
returns-in-Some-LinksToNoPid-clause-ok g c =
    let is : c.args.error ≡ Some LinksToNoPid = search rules in
    let o = c.args.out.now.items in
    subst (λ e. PutsLines c.args.self.now.name.now (lines_of e) o o) (sym is) (nothing c.args.self.now.name.now o)

pub returns-in-Some-UnlinksFromNoPid-clause-ok : goal.returns-in-Some-UnlinksFromNoPid-clause-ok
returns-in-Some-UnlinksFromNoPid-clause-ok g c =
    let is : c.args.error ≡ Some UnlinksFromNoPid = search rules in
    let o = c.args.out.now.items in
    subst (λ e. PutsLines c.args.self.now.name.now (lines_of e) o o) (sym is) (nothing c.args.self.now.name.now o)

pub returns-in-None-clause-ok : goal.returns-in-None-clause-ok
returns-in-None-clause-ok g c =
    let o = c.args.out.now.items in
    subst (λ e. PutsLines c.args.self.now.name.now (lines_of e) o o) (sym c.in-None.is) (nothing c.args.self.now.name.now o)
