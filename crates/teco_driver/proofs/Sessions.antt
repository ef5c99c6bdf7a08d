-- A run over an input whose session is kept, from what its parts have done.
use Rattle.std.proofs.Common.{◌≡◌, inl, inr, ℕ, List, Bool, true, false, subst, Result, Ok, Err, String, Global, codes, IfErr, IfOk, OnErr}
use Rattle.std.specs.String.{string_bytes}
use Rattle.teco_cli.specs.StreamNames.{is_standard_input, is_standard_output}
use Rattle.teco_cli.specs.declared.line.Line.{Line}
use Rattle.teco_driver.specs.Given.{HostView}
use Rattle.teco_driver.specs.Backups.{replacing_of}
use Rattle.teco_driver.specs.Run.{FinishesIn, bounds_of, input_from, manner_of, named_input, replaces_input, standard_input}
use Rattle.teco_driver.specs.Seen.{CommandsSeen, InputSeen}
use Rattle.teco_driver.specs.SessionLines.{TellsOrLacks}
use Rattle.teco_driver.specs.Sessions.{FinishesKept, OpensOver, RunsSession, as_state}
use Rattle.teco_driver.specs.declared.host.Host.{Host}
use Rattle.teco_driver.specs.declared.keeping.SessionEnd.{SessionEnd}
use Rattle.teco_driver.specs.declared.keeping.SessionEnd.TheVariants.{Closed, Ended, Broken}
use Rattle.teco_fs.specs.Refusing.{Tells}
use Rattle.teco_fs.specs.State.{DiskState}
use Rattle.teco_io.specs.Terminal.{Screen, Shows}
use Rattle.teco_journal.specs.Heads.{Beginning}
use Rattle.teco_recorder.specs.Again.{HeardBy, HearsHeld, OpensHeard, steps_again}
use Rattle.teco_recorder.specs.declared.fault.OpenFault.{OpenFault}
use Rattle.teco_recorder.specs.declared.fault.OpenFault.TheVariants.{NoFile, NoMemory, Version, Head, Changed, Settings, Replay, Input}
use Rattle.teco_recorder.specs.Opening.{OpenSession, Opens, StaysClosed}
use Rattle.teco_recorder.specs.declared.opening.Asked.{Asked}
use Rattle.teco_recorder.specs.Recording.{IsRecorded, KeptFile, recording}
use Rattle.teco_serve.specs.Ending.{output_of, said}
use Rattle.teco_serve.specs.Exchange.{allowance}
use Rattle.teco_serve.specs.Serving.{Serves}
use Rattle.teco_serve.specs.declared.served.Served.{Served}
use Rattle.teco_session.specs.History.{History, present}

-- a disk without what no recorder's rule speaks of
abbrev pub bare : DiskState → DiskState
bare s = record {
  files = s.files;
  streams = s.streams;
  left = s.left;
  failures = 0;
  gave = s.gave;
  kept = λ name. ⊥;
  unremoved = λ name. ⊥;
  changed = s.changed;
  unkept = s.unkept;
}

pub opens_bare : (start : Beginning) (asked : Asked) (name : List ℕ) (old new : DiskState) (is : OpenSession)
    → Opens start asked name old new is → Opens start asked name (bare old) (bare new) is
opens_bare start asked name old new is o = record {
  beginning = o.beginning;
  events = o.events;
  found = elim o.found [
    | inl begun ↦ inl (begun.0, begun.1, begun.2, record { before = begun.3.before; moments = begun.3.moments })
    | inr gone ↦ inr (gone.0, record { had = gone.1.had; lines = gone.1.lines; before = gone.1.before; moments = gone.1.moments })
  ];
  after = o.after;
  streams = o.streams;
  file_is = o.file_is;
  history_is = o.history_is;
  records_are = o.records_are;
  input = o.input;
}

pub opens_heard_bare : (unheard : Type 0) (heard : ℕ → Type 0) (start : Beginning) (asked : Asked) (name : List ℕ) (old new : DiskState)
    (is : OpenSession) → OpensHeard unheard heard start asked name old new is → OpensHeard unheard heard start asked name (bare old) (bare new) is
unfolding opens_bare
opens_heard_bare unheard heard start asked name old new is o = record {
  opens = opens_bare start asked name old new is o.opens;
  is_heard = o.is_heard;
}

-- What was heard by why, if more is known of each.
pub heard_as : (fault : OpenFault) {unheard heard untold told : Type 0} → (unheard → untold) → (heard → told) → HeardBy fault unheard heard
    → HeardBy fault untold told
heard_as (NoFile reason) f g (inl none) = inl (f none)
heard_as (NoFile reason) f g (inr it) = inr (g it)
heard_as NoMemory f g (inl none) = inl (f none)
heard_as NoMemory f g (inr it) = inr (g it)
heard_as Version f g none = f none
heard_as Head f g none = f none
heard_as (Changed line) f g none = f none
heard_as Settings f g none = f none
heard_as (Replay fault) f g it = g it
heard_as Input f g it = g it

pub held_bare : (heard told : ℕ → Type 0) (name : List ℕ) (old : DiskState) → ((steps : ℕ) → heard steps → told steps) → HearsHeld heard name old
    → HearsHeld told name (bare old)
held_bare heard told name old so (events, held, it) = (
  events,
  record { beginning = held.beginning; torn = held.torn; had = held.had; lines = held.lines; there = held.there },
  so (steps_again events) it,
)

pub shut_heard : (fault : OpenFault) (unheard : Type 0) (heard : ℕ → Type 0) (name : List ℕ) (old : DiskState)
    → HeardBy fault unheard (HearsHeld heard name old) → HeardBy fault unheard (HearsHeld heard name (bare old))
shut_heard fault unheard heard name old it =
    heard_as fault {unheard = unheard} {heard = HearsHeld heard name old} {untold = unheard} {told = HearsHeld heard name (bare old)} (λ same. same)
    (held_bare heard heard name old (λ steps same. same)) it

-- What one hears is told, of a session that was opened and of one that was not.
pub told_opened : {T F : Type 0} (r : Result T F) (view : T → OpenSession) (unheard untold : Type 0) (heard told : ℕ → Type 0) (start : Beginning)
    (asked : Asked) (one name : List ℕ) (old new : DiskState) → (unheard → untold) → ((steps : ℕ) → heard steps → told steps) → one ≡ name
    → IfOk r (λ opened. OpensHeard unheard heard start asked one old new (view opened))
    → IfOk r (λ opened. OpensHeard untold told start asked name old new (view opened))
told_opened (Ok opened) view unheard untold heard told start asked one name old new f g same o =
    subst (λ (n : List ℕ). OpensHeard untold told start asked n old new (view opened)) same (record {
      opens = o.opens;
      is_heard = elim o.is_heard [ inl none ↦ inl (f none.0, none.1) | inr it ↦ inr (g (steps_again o.opens.events) it) ];
    })
told_opened (Err fault) view unheard untold heard told start asked one name old new f g same o = tt

held_told : (heard told : ℕ → Type 0) (name : List ℕ) (old : DiskState) → ((steps : ℕ) → heard steps → told steps) → HearsHeld heard name old
    → HearsHeld told name old
held_told heard told name old so (events, held, it) = (events, held, so (steps_again events) it)

pub told_shut : {T : Type 0} (r : Result T OpenFault) (view : T → OpenSession) (unheard untold : Type 0) (heard told : ℕ → Type 0)
    (start : Beginning) (asked : Asked) (one name : List ℕ) (old new : DiskState) → (unheard → untold)
    → ((steps : ℕ) → heard steps → told steps) → one ≡ name → IfOk r (λ opened. OpensHeard unheard heard start asked one old new (view opened))
    → IfErr r (λ fault. HeardBy fault unheard (HearsHeld heard one old)) → IfErr r (λ fault. HeardBy fault untold (HearsHeld told name old))
told_shut (Ok opened) view unheard untold heard told start asked one name old new f g same o h = tt
told_shut (Err fault) view unheard untold heard told start asked one name old new f g same o h =
    subst (λ (n : List ℕ). HeardBy fault untold (HearsHeld told n old)) same
    (heard_as fault {unheard = unheard} {heard = HearsHeld heard one old} {untold = untold} {told = HearsHeld told one old} f (held_told heard told one old g) h)

pub closed_bare : (start : Beginning) (name : List ℕ) (old new : DiskState) → StaysClosed start name old new → StaysClosed start name (bare old) (bare new)
closed_bare start name old new c = record { kept = c.kept; moments = c.moments; streams = c.streams }

pub recorded_bare : (old new : DiskState) (file left : KeptFile) (was is : Bool) (first last : History)
    → IsRecorded (recording old file was) (recording new left is) first last
    → IsRecorded (recording (bare old) file was) (recording (bare new) left is) first last
recorded_bare old new file left was is first last r = record {
  events = r.events;
  leads = r.leads;
  happen = r.happen;
  lines = record {
    rests = λ broken. let x = r.lines.rests broken in record { files = x.files; streams = x.streams; moments = x.moments; file = x.file; broken = x.broken };
    extends = λ sound. let x = r.lines.extends sound in record { name = x.name; whole = x.whole; front = x.front; moments = x.moments; streams = x.streams };
    check = r.lines.check;
    sound = r.lines.sound;
  };
}

-- A text that was made, or not, is told, or that there was no memory.
pub tells_either : {F : Type 0} (old new : Screen) (text : List ℕ) (made : Result (String Global) F)
    → IfOk made (λ lines. string_bytes lines ≡ text) → IfOk made (λ lines. Tells old new (string_bytes lines))
    → OnErr made (Tells old new (said (codes "no memory"))) → TellsOrLacks old new text
tells_either old new text (Ok lines) is told lacks = inl (subst (λ t. Tells old new t) is told)
tells_either old new text (Err fault) is told lacks = inr lacks

-- An input that is a file is the same, whatever standard input has.
file_still : (b : Bool) (one other file : InputSeen) (bytes : List ℕ) → b ≡ false → (input_from b one file).is_input bytes → (input_from b other file).is_input bytes
file_still true one other file bytes apart is = absurd (let t : true ≡ false = apart in cc)
file_still false one other file bytes apart is = is

module _ {D I S A T E : Type 0} (view : HostView D I S T) (errors : E → Screen) (line : Line) (name : List ℕ) where
  pub opens_apart : (old : Host S A T D) (one other : S) (disk : D) (told telling : E) (length_read : ℕ) (is : OpenSession)
      → is_standard_input name ≡ false
      → OpensOver view errors line name old one disk told telling length_read is
      → OpensOver view errors line name old other disk told telling length_read is
  opens_apart old one other disk told telling length_read is apart o = record {
    read = o.read;
    input = o.input;
    keeps = o.keeps;
    input_is = file_still (is_standard_input name) (standard_input view.stream old.commands one) (standard_input view.stream old.commands other)
        (named_input (view.disk old.disk) (view.disk o.read) name) o.input apart o.input_is;
    length_is = o.length_is;
    between = o.between;
    opens = o.opens;
    tells = o.tells;
  }

  -- from the opening, the serving and the end
  pub runs_session : (given : CommandsSeen) (old new : Host S A T D) (told telling : E) (opened served : D) (term : T) (length_read : ℕ) (is : OpenSession) (left : KeptFile)
      (last : History) (ended : Served) (is_broken : Bool) (to : List ℕ) (end : SessionEnd)
      → OpensOver view errors line name old new.commands opened told telling length_read is
      → Serves (allowance (bounds_of line length_read) given.asked) (manner_of line) given.gave given.ended (Shows (view.screen old.terminal) (view.screen term)) is.history last ended
      → IsRecorded (recording (as_state (view.disk opened)) is.file false) (recording (as_state (view.disk served)) left is_broken) is.history last
      → to ≡ output_of line name
      → FinishesKept line to ended (present last).output is_broken (view.disk served) (view.disk new.disk) view.screen term new.terminal end
      → RunsSession view errors line name given old new told telling end
  runs_session given old new told telling opened served term length_read is left last ended is_broken to (Closed fault) opens serves recorded named finishes = absurd finishes
  runs_session given old new told telling opened served term length_read is left last ended is_broken to (Ended end) opens serves recorded named finishes = record {
    opened = opened;
    length_read = length_read;
    is = is;
    opens = opens;
    served = served;
    term = term;
    left = left;
    last = last;
    ended = ended;
    serves = serves;
    recorded = subst (λ (b : Bool). IsRecorded (recording (as_state (view.disk opened)) is.file false) (recording (as_state (view.disk served)) left b) is.history last) finishes.0 recorded;
    finishes = subst (λ (place : List ℕ). FinishesIn (is_standard_output place) ended (present last).output (replaces_input line) (replacing_of line) place (view.disk served) (view.disk new.disk) view.screen term new.terminal end) named finishes.1;
  }
  runs_session given old new told telling opened served term length_read is left last ended is_broken to (Broken reason end) opens serves recorded named finishes = record {
    opened = opened;
    length_read = length_read;
    is = is;
    opens = opens;
    served = served;
    term = term;
    left = left;
    last = last;
    ended = ended;
    serves = serves;
    recorded = subst (λ (b : Bool). IsRecorded (recording (as_state (view.disk opened)) is.file false) (recording (as_state (view.disk served)) left b) is.history last) finishes.0 recorded;
    finishes = subst (λ (place : List ℕ). FinishesIn (is_standard_output place) ended (present last).output (replaces_input line) (replacing_of line) place (view.disk served) (view.disk new.disk) view.screen term new.terminal end) named finishes.1;
  }
