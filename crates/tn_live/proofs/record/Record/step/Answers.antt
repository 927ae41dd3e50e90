use Rattle.std.proofs.Common.{◌∙◌, ◌<◌, List, Ok, Err, length, arith, refl, sym, ap, subst}
use Rattle.def_run.specs.Laws.{IsIdleAfter}
use Rattle.tn_live.specs.declared.entry.Entry.{Entry}
use Rattle.tn_live.specs.Journal.{picks_of}
use Rattle.tn_live.proofs.RecordTurns.{record_as, record_same, core_steps, seen_same, rests, turns_from, begins_as, length_as}
use Rattle.tn_live.proofs.record.Record.step.Goals as goal

pub enter-requires-clause-moved : goal.enter-requires-clause-moved
enter-requires-clause-moved g c =
    let p = g.J.JournalName.program in
    let r = c.make_room.new.self in
    let is = record_same p c.args.self.now r c.requires.record c.make_room.ensures.record in record {
      reached = is.reached;
      journal = is.moved;
      moved = rw c.in-Ok-Moved.field-0-is at (core_steps p r c.args.pick c.step.new.self (Ok c.in-Ok-Moved.field-0) is c.in-Ok-Moved.ensures.step);
      placed = is.placed;
      counted = is.counted;
    }

pub enter-requires-clause-seen : goal.enter-requires-clause-seen
enter-requires-clause-seen g c = seen_same g.J.JournalName.program c.args.seen.now c.make_room.new.seen c.requires.seen c.make_room.ensures.seen

pub enter-requires-clause-begins : goal.enter-requires-clause-begins
enter-requires-clause-begins g c =
    begins_as c.args.self.now.entries.items c.make_room.new.self.entries.items c.args.seen.now.entries.items c.make_room.new.seen.entries.items c.args.seen.now.number c.make_room.new.seen.number
    c.make_room.ensures.record.entries c.make_room.ensures.seen.entries c.make_room.ensures.seen.number c.requires.begins

pub enter-requires-clause-room : goal.enter-requires-clause-room
enter-requires-clause-room g c =
    let room = c.in-Ok.ensures.room in record { entries = room.entries; places = room.places; seen = room.seen }

pub returns-in-Ok-Moved : goal.returns-in-Ok-Moved
returns-in-Ok-Moved g c =
    turns_from g.J.JournalName.program c.args.self.now _ c.enter.new.self c.args.seen.now c.make_room.new.seen c.enter.new.seen c.args.pick c.enter.result c.make_room.ensures.record.entries c.make_room.ensures.seen c.enter.ensures

pub returns-in-Ok-Idle : goal.returns-in-Ok-Idle
returns-in-Ok-Idle g c =
    let p = g.J.JournalName.program in
    let r = c.make_room.new.self in
    let same = c.make_room.ensures.record in
    let seen = c.make_room.ensures.seen in
    let is = record_same p c.args.self.now r c.requires.record same in
    let stepped = rw c.in-Ok-Idle.field-0-is at (core_steps p r c.args.pick c.step.new.self (Ok c.in-Ok-Idle.field-0) is c.in-Ok-Idle.ensures.step) in
    let q = record_as p r _ is refl refl refl refl stepped.after in (
      rests p c.args.self.now _ c.args.seen.now c.show.new.seen c.requires.record q c.requires.seen c.requires.begins same.entries c.show.ensures.front c.show.ensures.entries (c.show.ensures.number ∙ seen.number)
          (c.show.ensures.made ∙ seen.made) (c.show.ensures.last ∙ seen.last),
      subst (λ n. n < 65536) (length_as r.entries.items c.args.self.now.entries.items same.entries) stepped.room,
      subst (λ (es : List Entry). IsIdleAfter p (picks_of es) c.args.pick) same.entries stepped.idle,
      omega (arith, c.len-front.ensures, r.entries.ok.0, ap length same.entries),
    )

pub returns-in-Err-LimitReached : goal.returns-in-Err-LimitReached
returns-in-Err-LimitReached g c =
    let p = g.J.JournalName.program in
    let r = c.make_room.new.self in
    let same = c.make_room.ensures.record in
    let seen = c.make_room.ensures.seen in
    let show = c.show-in-Err-LimitReached.ensures in
    let is = record_same p c.args.self.now r c.requires.record same in
    let stepped = rw c.in-Err-LimitReached.field-0-is at (core_steps p r c.args.pick c.step.new.self (Err c.in-Err-LimitReached.field-0) is c.in-Err-LimitReached.ensures.step) in
    let q = record_as p r _ is refl refl refl refl stepped.1 in (
      rests p c.args.self.now _ c.args.seen.now c.show-in-Err-LimitReached.new.seen c.requires.record q c.requires.seen c.requires.begins same.entries show.front show.entries (show.number ∙ seen.number) (show.made ∙ seen.made)
          (show.last ∙ seen.last),
      sym (length_as r.entries.items c.args.self.now.entries.items same.entries) ∙ stepped.0,
    )

pub returns-in-Err-Spent : goal.returns-in-Err-Spent
returns-in-Err-Spent g c =
    let p = g.J.JournalName.program in
    let r = c.make_room.new.self in
    let is = record_same p c.args.self.now r c.requires.record c.make_room.ensures.record in
    absurd (rw c.in-Err-Spent.field-0-is at (core_steps p r c.args.pick c.step.new.self (Err c.in-Err-Spent.field-0) is c.in-Err-Spent.ensures.step))
