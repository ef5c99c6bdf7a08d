-- What a call that opens a session gives, by how what it called ended.
use Rattle.std.proofs.Common.{◌≡◌, ◌⊎◌, ◌-◌, ◌++◌, ℕ, List, [], Result, Ok, Err, IfErr, IfOk, OnErr, OnOk, length, drop, refl, sym, ap, ◌∙◌, subst, inl, inr, arith}
use Rattle.teco_fs.specs.Disk.{CutsTo, Same}
use Rattle.teco_fs.specs.State.{DiskState, FilesChange, FilesPass}
use Rattle.teco_journal.specs.declared.head_reader.HeadFault.TheVariants.{Torn}
use Rattle.teco_journal.specs.declared.reader.Ending.{Ending}
use Rattle.teco_journal.specs.Events.{Event}
use Rattle.teco_journal.specs.Files.{Holds}
use Rattle.teco_journal.specs.HeadFaults.{HeadFails}
use Rattle.teco_journal.specs.Heads.{Beginning, file_of, first_check, whole_head}
use Rattle.teco_journal.specs.Lines.{check_after}
use Rattle.teco_journal.specs.Reading.{EndsAs}
use Rattle.teco_recorder.specs.declared.opening.Asked.{Asked}
use Rattle.teco_recorder.specs.Again.{HeardBy, HearsHeld, IsOfFile, IsOfSystem, OpensHeard, steps_again}
use Rattle.teco_recorder.specs.declared.fault.OpenFault.{OpenFault}
use Rattle.teco_recorder.specs.declared.fault.OpenFault.TheVariants.{NoFile, NoMemory, Version, Changed, Settings, Replay, Input}
use Rattle.teco_recorder.specs.declared.fault.OpenFault.TheVariants.{Head as HeadFault}
use Rattle.teco_recorder.specs.Opening.{GoesOn, HasLines, IsAsked, IsExpected, IsGood, OpenSession, StaysClosed, first_history}
use Rattle.teco_recorder.specs.Recording.{HasIfThere, IsBegun}
use Rattle.teco_replay.specs.Told.{after_events}
use Rattle.teco_recorder.proofs.Lengths.{rest_length}
use Rattle.teco_recorder.proofs.Openings.{HasBytes, IsFound, begun_after, begun_found, cut_after, found_goes_on, found_lines, unbegun_closed, uncut_closed}

-- what a reading says of the bytes that it read
pub has_lines : (bytes check : List ℕ) (beginning : Beginning) (events : List Event) (good torn : ℕ) (end : Ending)
    → Holds bytes beginning events → bytes ≡ file_of beginning events ++ drop good bytes → good ≡ length (file_of beginning events)
    → check ≡ check_after (first_check beginning) events → EndsAs check (drop good bytes) end → IsGood end → torn ≡ length bytes - good
    → HasLines beginning events torn bytes
has_lines bytes check beginning events good torn end holds front size last ends fine count =
    let all = rest_length bytes beginning events good front size in record {
      holds = holds;
      rest = drop good bytes;
      front = front;
      end = end;
      good = fine;
      ends = subst (λ c. EndsAs c (drop good bytes) end) last ends;
      count = omega (arith, all, count);
    }

pub opens_begun : {T E : Type 0} (unheard : Type 0) (heard : ℕ → Type 0) (view : T → OpenSession) (r : Result T E) (start : Beginning) (asked : Asked) (name one bytes : List ℕ)
    (old now end : DiskState) → one ≡ name → IsFound name old now → HasBytes name bytes now → HeadFails bytes Torn
    → IfOk r (λ opened. (view opened).file ≡ record { name = one; check = first_check start })
    → IfOk r (λ opened. (view opened).history ≡ first_history start) → IfOk r (λ opened. (view opened).records ≡ 0)
    → IfOk r (λ opened. (view opened).torn ≡ 0) → OnOk r (FilesChange now end (HasIfThere one (whole_head start)))
    → FilesPass now end (IsBegun one (whole_head start)) → end.streams ≡ now.streams → unheard
    → IfOk r (λ opened. OpensHeard unheard heard start asked name old end (view opened))
unfolding check_after after_events
opens_begun unheard heard view (Ok opened) start asked name one bytes old now end named found has torn file history records count whole passes
    streams nothing =
    let all = subst (λ n. FilesChange now end (HasIfThere n (whole_head start))) named whole in
    let moments = subst (λ n. FilesPass now end (IsBegun n (whole_head start))) named passes in record {
      opens = record {
        beginning = start;
        events = [];
        found = inl (refl, refl, count, begun_found start name bytes old now end found has torn all moments);
        after = begun_after start name old now end found all;
        streams = streams ∙ found.streams;
        file_is = file ∙ ap (λ n. record { name = n; check = first_check start }) named;
        history_is = history;
        records_are = records;
        input = inl refl;
      };
      is_heard = inl (nothing, refl);
    }
opens_begun unheard heard view (Err fault) start asked name one bytes old now end named found has torn file history records count whole passes streams nothing = tt

pub begun_closed : {T E : Type 0} (r : Result T E) (start : Beginning) (name one bytes : List ℕ) (old now end : DiskState) → one ≡ name
    → IsFound name old now → HasBytes name bytes now → HeadFails bytes Torn
    → OnErr r (FilesChange now end (IsBegun one (whole_head start))) → FilesPass now end (IsBegun one (whole_head start))
    → end.streams ≡ now.streams → OnErr r (StaysClosed start name old end)
begun_closed (Ok opened) start name one bytes old now end named found has torn front passes streams = tt
begun_closed (Err fault) start name one bytes old now end named found has torn front passes streams =
    unbegun_closed start name bytes old now end found has torn
    (subst (λ n. FilesChange now end (IsBegun n (whole_head start))) named front)
    (subst (λ n. FilesPass now end (IsBegun n (whole_head start))) named passes) streams

pub opens_again : {T E : Type 0} (unheard : Type 0) (heard : ℕ → Type 0) (view : T → OpenSession) (r : Result T E) (start beginning : Beginning) (events : List Event) (asked : Asked)
    (torn good : ℕ) (name one bytes check : List ℕ) (old now end : DiskState) → one ≡ name → IsFound name old now → HasBytes name bytes now
    → HasLines beginning events torn bytes → good ≡ length (file_of beginning events) → check ≡ check_after (first_check beginning) events
    → IsAsked asked beginning → IfOk r (λ opened. (view opened).file ≡ record { name = one; check = check })
    → IfOk r (λ opened. (view opened).history ≡ after_events (first_history beginning) events)
    → IfOk r (λ opened. (view opened).records ≡ length events) → IfOk r (λ opened. (view opened).torn ≡ torn)
    → OnOk r (IsExpected beginning events start.input) → OnOk r (FilesChange now end (CutsTo one good))
    → FilesPass now end (λ before at. Same before at ⊎ CutsTo one good before at) → end.streams ≡ now.streams → heard (steps_again events)
    → IfOk r (λ opened. OpensHeard unheard heard start asked name old end (view opened))
opens_again unheard heard view (Ok opened) start beginning events asked torn good name one bytes check old now end named found has lines size
    last is_asked file history records count expected cut passes streams told =
    let all = subst (λ n. FilesChange now end (CutsTo n good)) named cut in
    let moments = subst (λ n. FilesPass now end (λ before at. Same before at ⊎ CutsTo n good before at)) named passes in
    let goes = found_goes_on beginning events torn good name bytes old now end found has lines size all moments in record {
      opens = record {
        beginning = beginning;
        events = events;
        found = inr (is_asked, subst (λ n. GoesOn beginning events n name old end) (sym count) goes);
        after = cut_after beginning events torn good name bytes old now end found has lines size all;
        streams = streams ∙ found.streams;
        file_is = file ∙ ap (λ n. record { name = n; check = check }) named ∙ ap (λ c. record { name = name; check = c }) last;
        history_is = history;
        records_are = records;
        input = expected;
      };
      is_heard = inr told;
    }
opens_again unheard heard view (Err fault) start beginning events asked torn good name one bytes check old now end named found has lines size
    last is_asked file history records count expected cut passes streams told = tt

pub again_closed : {T E : Type 0} (r : Result T E) (start beginning : Beginning) (events : List Event) (torn good : ℕ)
    (name one bytes : List ℕ) (old now end : DiskState) → one ≡ name → IsFound name old now → HasBytes name bytes now
    → HasLines beginning events torn bytes → good ≡ length (file_of beginning events) → OnErr r (FilesChange now end Same)
    → FilesPass now end (λ before at. Same before at ⊎ CutsTo one good before at) → end.streams ≡ now.streams
    → OnErr r (StaysClosed start name old end)
again_closed (Ok opened) start beginning events torn good name one bytes old now end named found has lines size same passes streams = tt
again_closed (Err fault) start beginning events torn good name one bytes old now end named found has lines size same passes streams =
    uncut_closed start beginning events torn good name bytes old now end found has lines size same
    (subst (λ n. FilesPass now end (λ before at. Same before at ⊎ CutsTo n good before at)) named passes) streams

-- What was heard of a file that is not gone on with.
pub unheard_of_system : (unheard heard : Type 0) (fault : OpenFault) → IsOfSystem fault → unheard → HeardBy fault unheard heard
unheard_of_system unheard heard (NoFile reason) is nothing = inl nothing
unheard_of_system unheard heard NoMemory is nothing = inl nothing
unheard_of_system unheard heard Version is nothing = nothing
unheard_of_system unheard heard HeadFault is nothing = nothing
unheard_of_system unheard heard (Changed line) is nothing = nothing
unheard_of_system unheard heard Settings is nothing = nothing
unheard_of_system unheard heard (Replay fault) is nothing = absurd is
unheard_of_system unheard heard Input is nothing = absurd is

pub unheard_of_file : (unheard heard : Type 0) (fault : OpenFault) → IsOfFile fault → unheard → HeardBy fault unheard heard
unheard_of_file unheard heard (NoFile reason) is nothing = inl nothing
unheard_of_file unheard heard NoMemory is nothing = inl nothing
unheard_of_file unheard heard Version is nothing = nothing
unheard_of_file unheard heard HeadFault is nothing = nothing
unheard_of_file unheard heard (Changed line) is nothing = nothing
unheard_of_file unheard heard Settings is nothing = nothing
unheard_of_file unheard heard (Replay fault) is nothing = absurd is
unheard_of_file unheard heard Input is nothing = absurd is

heard_of : (unheard heard : Type 0) (fault : OpenFault) → (IsOfFile fault → ⊥) → heard → HeardBy fault unheard heard
heard_of unheard heard (NoFile reason) not_of it = inr it
heard_of unheard heard NoMemory not_of it = inr it
heard_of unheard heard Version not_of it = absurd (not_of tt)
heard_of unheard heard HeadFault not_of it = absurd (not_of tt)
heard_of unheard heard (Changed line) not_of it = absurd (not_of tt)
heard_of unheard heard Settings not_of it = absurd (not_of tt)
heard_of unheard heard (Replay fault) not_of it = it
heard_of unheard heard Input not_of it = it

pub unheard_closed : {T : Type 0} (unheard heard : Type 0) (r : Result T OpenFault) → IfErr r IsOfSystem → unheard
    → IfErr r (λ fault. HeardBy fault unheard heard)
unheard_closed unheard heard (Ok opened) is nothing = tt
unheard_closed unheard heard (Err fault) is nothing = unheard_of_system unheard heard fault is nothing

pub heard_closed : {T : Type 0} (unheard : Type 0) (heard : ℕ → Type 0) (r : Result T OpenFault) (beginning : Beginning) (events : List Event)
    (torn : ℕ) (name bytes : List ℕ) (old now : DiskState) → IsFound name old now → HasBytes name bytes now
    → HasLines beginning events torn bytes → IfErr r (λ fault. IsOfFile fault → ⊥) → heard (steps_again events)
    → IfErr r (λ fault. HeardBy fault unheard (HearsHeld heard name old))
heard_closed unheard heard (Ok opened) beginning events torn name bytes old now found has lines is told = tt
heard_closed unheard heard (Err fault) beginning events torn name bytes old now found has lines is told =
    heard_of unheard (HearsHeld heard name old) fault is (
      events,
      record {
        beginning = beginning;
        torn = torn;
        had = bytes;
        lines = lines;
        there = λ before is. (found_lines beginning events torn name bytes old now found has lines before is).3;
      },
      told,
    )
