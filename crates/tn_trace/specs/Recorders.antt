-- What the code's recorder stands for.
use Rattle.std.specs.Prelude.{ℕ, List, [], ◌∷◌, ◌++◌, length, map}
use Rattle.def_term.specs.Tree.{Tree}
use Rattle.def_script.specs.Program.{Command, Program}
use Rattle.def_script.specs.Exports.{Exports, exports_of}
use Rattle.def_run.specs.Listing.{Item as DefinedItem, replies, answer}
use Rattle.tn_term.specs.Views.{alive_of}
use Rattle.tn_trace.specs.Tracks.{Track, tracks_of, with_command, reply_in, IsOneMore, AreMore}
use Rattle.tn_trace.specs.Slots.{IsTracked, EachPair}
use Rattle.tn_trace.specs.declared.recorder.Recorder.{Recorder}

-- the recorder's sessions are these
abbrev pub AreTracked : {A K : Type 0} → (K → List Tree → Type 0) → Exports → List Track → Recorder A K → Type 0
AreTracked Keeps o ts r = EachPair (IsTracked Keeps o (alive_of r.living)) ts r.slots.items

-- a command was taken
pub record Takes {A K : Type 0} (Keeps : K → List Tree → Type 0) (o : Exports) (ts : List Track) (c : Command) (old new : Recorder A K) : Type 0 where
  pub sessions : AreTracked Keeps o (map (with_command o c) ts) new
  pub replied : IsOneMore Keeps (reply_in o c ts) old.replies new.replies

-- the recorder has the sessions and the replies of the program's run by these picks
pub record HasRecorded {A K : Type 0} (Keeps : K → List Tree → Type 0) (r : Recorder A K) (p : Program) (picks : List ℕ) : Type 0 where
  pub sessions : AreTracked Keeps (exports_of p) (tracks_of p picks) r
  pub replied : Keeps r.replies (replies p picks)

-- the answer of one more pick was handed out
abbrev pub HandsOutAnswer : {O G : Type 0} → (G → List DefinedItem → Type 0) → Program → List ℕ → ℕ → O → O → G → G → Type 0
HandsOutAnswer Gives p picks pick old new given given' = AreMore Gives (answer p (picks ++ pick ∷ []) (length picks)) given given'
