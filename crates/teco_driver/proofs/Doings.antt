-- What a run has done leads to what it has done as seen from before, or over another input.
use Rattle.teco_io.specs.declared.source.Source.{Ghosts as SourceView}
use Rattle.std.proofs.Common.{◌≡◌, ◌≢◌, inl, inr, ℕ, List, length, Bool, IsTrue, Option, None, Some, true, false, refl, ap, sym, ◌∙◌, subst}
use Rattle.std.specs.declared.io.Error.{Error}
use Rattle.std.specs.IoError.{error_kind}
use Rattle.teco_fs.specs.Disk.{Changes, Files}
use Rattle.teco_fs.specs.Reasons.{ComesTo, reason_of}
use Rattle.teco_fs.specs.declared.unkept.Unkept.{Unkept}
use Rattle.teco_io.specs.declared.input.InputFault.{InputFault}
use Rattle.teco_io.specs.declared.input.InputFault.TheVariants as input
use Rattle.teco_cli.specs.declared.line.Line.{Line}
use Rattle.teco_cli.specs.StreamNames.{is_standard_output}
use Rattle.teco_session.specs.History.{History, present}
use Rattle.teco_serve.specs.Exchange.{allowance}
use Rattle.teco_serve.specs.Serving.{Serves}
use Rattle.teco_io.specs.Terminal.{Screen, Shows}
use Rattle.teco_fs.specs.declared.reason.Reason.{Reason}
use Rattle.teco_fs.specs.Writing.{HasDraft, IsPut}
use Rattle.teco_driver.specs.Backups.{AfterKeeping, FailsToKeep, LeavesOver, Replacing, WritesOver, replacing_of}
use Rattle.teco_serve.specs.Ending.{fate_without_input, output_of}
use Rattle.teco_driver.specs.Seen.{CommandsSeen, InputSeen, OutputSeen, RunSeen, run_seen}
use Rattle.teco_fs.specs.Console.{TerminalSeen, terminal_seen}
use Rattle.teco_fs.specs.Seen.{DiskSeen, KeepsDisk}
use Rattle.teco_driver.specs.Run.{Doings, Edits, EndsBy, EndsIn, FindsChange, FinishesIn, Lacks, LacksInput, ServesInput, bounds_of, doings, doings_after, fate_written, given_input, history_over, manner_of, input_from, named_input, named_output, replaces_input, standard_input, standard_output}
use Rattle.teco_serve.specs.declared.fate.Fate.{Fate}
use Rattle.teco_serve.specs.declared.fate.Fate.TheVariants.{NoCommands, NoInput, NotRegular, LargeInput, NoMemory, NoOutput, NoBackup, Changed, Unchanged, Lacking, Ended}
use Rattle.teco_serve.specs.declared.served.Served.{Served}
use Rattle.teco_serve.specs.declared.served.Served.TheVariants as served

pub kept_same : {I : Type 0} {disk : DiskSeen I} → KeepsDisk disk disk
kept_same = record { files = refl; streams = refl; moments = λ files left. left }

-- each thing that the one may have done, the other has done too
pub record Leads (a b : Doings) : Type 0 where
  pub lacks : (fate : Fate) → a.lacks fate → b.lacks fate
  pub refuses : a.refuses → b.refuses
  pub idle : a.idle → b.idle
  pub keeps : a.keeps → b.keeps
  pub serves : (end : Served) (output : List ℕ) → a.serves end output → b.serves end output
  pub writes : (output : List ℕ) → a.writes output → b.writes output
  pub fails : (output : List ℕ) (fate : Fate) → a.fails output fate → b.fails output fate
  pub same : (output : List ℕ) → a.same output → b.same output
  pub changed : (output : List ℕ) → a.changed output → b.changed output
  pub unkept : (what : Option Unkept) → a.unkept what → b.unkept what

pub ends_so : {a b : Doings} → Leads a b → (fate : Fate) → EndsBy a fate → EndsBy b fate
ends_so l (NoCommands reason) e = e
ends_so l (NoInput reason) e = (l.lacks (NoInput reason) e.0, l.idle e.1, l.keeps e.2)
ends_so l NotRegular e = (l.refuses e.0, l.idle e.1, l.keeps e.2)
ends_so l LargeInput e = (l.lacks LargeInput e.0, l.idle e.1, l.keeps e.2)
ends_so l NoMemory (inl e) = inl (l.idle e.0, l.keeps e.1)
ends_so l NoMemory (inr e) = inr (e.0, l.serves served.Exit e.0 e.1, l.fails e.0 NoMemory e.2)
ends_so l (NoOutput reason) e = (e.0, l.serves served.Exit e.0 e.1, l.fails e.0 (NoOutput reason) e.2)
ends_so l (NoBackup reason) e = (e.0, l.serves served.Exit e.0 e.1, l.fails e.0 (NoBackup reason) e.2)
ends_so l Changed e = (e.0, l.serves served.Exit e.0 e.1, l.changed e.0 e.2)
ends_so l Unchanged e = (e.0, l.serves served.Exit e.0 e.1, l.same e.0 e.2, l.keeps e.3)
ends_so l (Lacking unkept) e = (e.0, l.serves served.Exit e.0 e.1, l.writes e.0 e.2, l.unkept (Some unkept) e.3)
ends_so l (Ended served.Exit) e = (e.0, l.serves served.Exit e.0 e.1, l.writes e.0 e.2, l.unkept None e.3)
ends_so l (Ended served.EndOfCommands) e = (e.0, l.serves served.EndOfCommands e.0 e.1, l.keeps e.2)
ends_so l (Ended served.ReadFault) e = (e.0, l.serves served.ReadFault e.0 e.1, l.keeps e.2)
ends_so l (Ended served.ShowFault) e = (e.0, l.serves served.ShowFault e.0 e.1, l.keeps e.2)
ends_so l (Ended served.NoMemory) e = (e.0, l.serves served.NoMemory e.0 e.1, l.keeps e.2)

-- after a serving
pub after_serving : {line : Line} {input : InputSeen} {to : OutputSeen} {commands : CommandsSeen} {term : TerminalSeen} {end : Served} {output : List ℕ}
    → ServesInput line input.is_input commands term end output
    → Leads (doings_after end output (IsTrue (replaces_input line)) to) (doings line input to commands term)
after_serving {line} {input} {to} {commands} {term} {end} {output} s = record {
  lacks = λ fate none. absurd none;
  refuses = λ none. absurd none;
  idle = λ none. absurd none;
  keeps = λ k. k;
  serves = λ e o is. subst (λ x. ServesInput line input.is_input commands term x o) (sym is.0) (subst (λ x. ServesInput line input.is_input commands term end x) (sym is.1) s);
  writes = λ o w. w;
  fails = λ o fate f. f;
  same = λ o h. h;
  changed = λ o h. h;
  unkept = λ what u. u;
}

-- to a terminal nothing is written over a file
pub on_terminal : {line : Line} {input : InputSeen} {to : OutputSeen} {commands : CommandsSeen} {term : TerminalSeen} {end : Served} {output : List ℕ}
    → ServesInput line input.is_input commands term end output
    → ((bytes : List ℕ) → to.is_as_read bytes) → Leads (doings_after end output ⊥ to) (doings line input to commands term)
on_terminal {line} {input} {to} {commands} {term} {end} {output} s free = record {
  lacks = λ fate none. absurd none;
  refuses = λ none. absurd none;
  idle = λ none. absurd none;
  keeps = λ k. k;
  serves = λ e o is. subst (λ x. ServesInput line input.is_input commands term x o) (sym is.0) (subst (λ x. ServesInput line input.is_input commands term end x) (sym is.1) s);
  writes = λ o w. ((λ over. free o), w.1);
  fails = λ o fate f. f;
  same = λ o h. absurd h.0;
  changed = λ o h. absurd h.0;
  unkept = λ what u. u;
}

-- any way but an exit
pub ended_otherwise : (run : Doings) (end : Served) (output : List ℕ) → end ≢ served.Exit → run.serves end output → run.keeps → EndsBy run (Ended end)
ended_otherwise run served.Exit output other s k = absurd (other refl)
ended_otherwise run served.EndOfCommands output other s k = (output, s, k)
ended_otherwise run served.ReadFault output other s k = (output, s, k)
ended_otherwise run served.ShowFault output other s k = (output, s, k)
ended_otherwise run served.NoMemory output other s k = (output, s, k)

-- The disk is as it was before the input was read.
module _ {I : Type 0} {old mid : DiskSeen I} (kept : KeepsDisk old mid) where
  pub keeps_after : {new : DiskSeen I} → KeepsDisk mid new → KeepsDisk old new
  keeps_after k = record { files = k.files ∙ kept.files; streams = k.streams ∙ kept.streams; moments = λ files left. kept.moments files (k.moments files left) }

  pub lacks_after : (new : DiskSeen I) (name : List ℕ) (fate : Fate) → LacksInput mid new name fate → LacksInput old new name fate
  lacks_after new name fate (inl opens) = inl opens
  lacks_after new name fate (inr reads) = inr (record {
    first = reads.first;
    last = reads.last;
    fault = reads.fault;
    opened = λ before told. reads.opened before (kept.files ∙ told);
    fault_is = reads.fault_is;
    fate_is = reads.fate_is;
  })

  pub writes_after : {new : DiskSeen I} {name : List ℕ} {how : Replacing} {output : List ℕ} → WritesOver mid new name how output → WritesOver old new name how output
  writes_after {new} {name} {how} {output} w = record {
    files = λ before told. subst (λ (streams : Files). Changes mid.files new.files (AfterKeeping name how.suffix (IsPut name output (streams name) (new.streams name)))) kept.streams w.files before (kept.files ∙ told);
    streams = λ other apart. w.streams other apart ∙ ap (λ (streams : Files). streams other) kept.streams;
    moments = λ synced before told files left. elim (w.moments synced before (kept.files ∙ told) files left) [ inl was ↦ inl (kept.moments files was) | inr now ↦ inr now ];
  }

  pub leaves_after : {new : DiskSeen I} {name : List ℕ} {how : Replacing} {output : List ℕ} → LeavesOver mid new name how output → LeavesOver old new name how output
  leaves_after f = record {
    files = λ before told. f.files before (kept.files ∙ told);
    streams = λ other apart. f.streams other apart ∙ ap (λ (streams : Files). streams other) kept.streams;
    moments = λ synced before told files left. elim (f.moments synced before (kept.files ∙ told) files left) [ inl was ↦ inl (kept.moments files was) | inr now ↦ inr now ];
  }

  pub keep_fails_after : {new : DiskSeen I} {name : List ℕ} {suffix : Option (List ℕ)} {fate : Fate} → FailsToKeep mid new name suffix fate → FailsToKeep old new name suffix fate
  keep_fails_after f = record {
    asked = f.asked;
    files = λ before told. f.files before (kept.files ∙ told);
    streams = f.streams ∙ kept.streams;
    moments = λ before told files left. elim (f.moments before (kept.files ∙ told) files left) [ inl was ↦ inl (kept.moments files was) | inr now ↦ inr now ];
    error = f.error;
    given = f.given;
    fate_is = f.fate_is;
  }

  pub fails_after : {new : DiskSeen I} {name : List ℕ} {how : Replacing} {output : List ℕ} {fate : Fate} → (named_output mid new name how).fails output fate → (named_output old new name how).fails output fate
  fails_after (inl f) = inl (record { leaves = leaves_after f.leaves; error = f.error; given = f.given; fate_is = f.fate_is })
  fails_after (inr f) = inr (keep_fails_after f)

  pub as_read_after : (new : DiskSeen I) (name : List ℕ) (how : Replacing) (output : List ℕ) → (named_output mid new name how).is_as_read output → (named_output old new name how).is_as_read output
  as_read_after new name how output r =
      subst (λ (streams : Files). new.asked name old.files (λ before now. streams name ≡ None → HasDraft name output before now)) kept.streams
      (subst (λ (files : Option Files). new.asked name files (λ before now. mid.streams name ≡ None → HasDraft name output before now)) kept.files r)

  pub change_after : {new : DiskSeen I} {name : List ℕ} {how : Replacing} {output : List ℕ} → FindsChange mid new name how output → FindsChange old new name how output
  change_after f = record { changed = f.changed; leaves = leaves_after f.leaves }

  -- a run over an input that was read is one over where it was read from
  pub to_file : {line : Line} {bytes : List ℕ} {input : InputSeen} {commands : CommandsSeen} {term : TerminalSeen} (new : DiskSeen I) (to : List ℕ) → input.is_input bytes
      → Leads (doings line (given_input bytes) (named_output mid new to (replacing_of line)) commands term) (doings line input (named_output old new to (replacing_of line)) commands term)
  to_file {line} {bytes} {input} {commands} {term} new to given = record {
    lacks = λ fate none. absurd none;
    refuses = λ none. absurd none.1;
    idle = λ i. i;
    keeps = keeps_after;
    serves = λ end output s. record {
      input = s.input;
      input_is = subst input.is_input (sym s.input_is) given;
      history = s.history;
      serves = s.serves;
      output_is = s.output_is;
    };
    writes = λ output w. ((λ over. as_read_after new to (replacing_of line) output (w.0 over)), writes_after w.1);
    fails = λ output fate f. fails_after f;
    same = λ output h. (h.0, λ before told. h.1 before (kept.files ∙ told));
    changed = λ output h. (h.0, change_after h.1);
    unkept = λ what u. u;
  }

pub to_terminal : {line : Line} {bytes : List ℕ} {input : InputSeen} {to : OutputSeen} {commands : CommandsSeen} {term : TerminalSeen} → input.is_input bytes
    → Leads (doings line (given_input bytes) to commands term) (doings line input to commands term)
to_terminal {line} {bytes} {input} {to} {commands} {term} given = record {
  lacks = λ fate none. absurd none;
  refuses = λ none. absurd none.1;
  idle = λ i. i;
  keeps = λ k. k;
  serves = λ end output s. record {
    input = s.input;
    input_is = subst input.is_input (sym s.input_is) given;
    history = s.history;
    serves = s.serves;
    output_is = s.output_is;
  };
  writes = λ output w. w;
  fails = λ output fate f. f;
  same = λ output h. h;
  changed = λ output h. h;
  unkept = λ what u. u;
}

-- an error's fate is want of memory or the other one
no_other : {error : Error} {by_reason : Reason → Fate} {fate : Fate} → ComesTo error NoMemory by_reason fate → fate ≢ NoMemory → fate ≢ by_reason (reason_of (error_kind error)) → ⊥
no_other f not_memory not_other = not_other (f.other_is (λ memory. not_memory (f.memory memory)))

lacks_some : (served : Served) (fault : InputFault) → Ended served ≡ fate_without_input fault → ⊥
lacks_some served input.Read e = cc
lacks_some served input.TooLarge e = cc
lacks_some served input.Memory e = cc

lacks_output : (reason : Reason) (fault : InputFault) → NoOutput reason ≡ fate_without_input fault → ⊥
lacks_output reason input.Read e = cc
lacks_output reason input.TooLarge e = cc
lacks_output reason input.Memory e = cc

lacks_backup : (reason : Reason) (fault : InputFault) → NoBackup reason ≡ fate_without_input fault → ⊥
lacks_backup reason input.Read e = cc
lacks_backup reason input.TooLarge e = cc
lacks_backup reason input.Memory e = cc

lacks_commands : (reason : Reason) (fault : InputFault) → NoCommands reason ≡ fate_without_input fault → ⊥
lacks_commands reason input.Read e = cc
lacks_commands reason input.TooLarge e = cc
lacks_commands reason input.Memory e = cc

lacks_irregular : (fault : InputFault) → NotRegular ≡ fate_without_input fault → ⊥
lacks_irregular input.Read e = cc
lacks_irregular input.TooLarge e = cc
lacks_irregular input.Memory e = cc

lacks_change : (fault : InputFault) → Changed ≡ fate_without_input fault → ⊥
lacks_change input.Read e = cc
lacks_change input.TooLarge e = cc
lacks_change input.Memory e = cc

lacks_kept : (unkept : Unkept) (fault : InputFault) → Lacking unkept ≡ fate_without_input fault → ⊥
lacks_kept unkept input.Read e = cc
lacks_kept unkept input.TooLarge e = cc
lacks_kept unkept input.Memory e = cc

lacks_no_change : (fault : InputFault) → Unchanged ≡ fate_without_input fault → ⊥
lacks_no_change input.Read e = cc
lacks_no_change input.TooLarge e = cc
lacks_no_change input.Memory e = cc

-- no run ends but for want of the input
module _ {I : Type 0} (old new : DiskSeen I) (name : List ℕ) where
  lacks_by : (run : Doings) (fate : Fate) → LacksInput old new name fate → run.lacks fate → run.idle → run.keeps → EndsBy run fate
  lacks_by run (NoCommands reason) (inl opens) l i k = absurd (no_other opens.fate_is (λ e. cc) (λ e. cc))
  lacks_by run (NoCommands reason) (inr reads) l i k = absurd (lacks_commands reason reads.fault reads.fate_is)
  lacks_by run (NoInput reason) why l i k = (l, i, k)
  lacks_by run NotRegular (inl opens) l i k = absurd (no_other opens.fate_is (λ e. cc) (λ e. cc))
  lacks_by run NotRegular (inr reads) l i k = absurd (lacks_irregular reads.fault reads.fate_is)
  lacks_by run LargeInput why l i k = (l, i, k)
  lacks_by run NoMemory why l i k = inl (i, k)
  lacks_by run (NoOutput reason) (inl opens) l i k = absurd (no_other opens.fate_is (λ e. cc) (λ e. cc))
  lacks_by run (NoOutput reason) (inr reads) l i k = absurd (lacks_output reason reads.fault reads.fate_is)
  lacks_by run (NoBackup reason) (inl opens) l i k = absurd (no_other opens.fate_is (λ e. cc) (λ e. cc))
  lacks_by run (NoBackup reason) (inr reads) l i k = absurd (lacks_backup reason reads.fault reads.fate_is)
  lacks_by run Changed (inl opens) l i k = absurd (no_other opens.fate_is (λ e. cc) (λ e. cc))
  lacks_by run Changed (inr reads) l i k = absurd (lacks_change reads.fault reads.fate_is)
  lacks_by run (Lacking unkept) (inl opens) l i k = absurd (no_other opens.fate_is (λ e. cc) (λ e. cc))
  lacks_by run (Lacking unkept) (inr reads) l i k = absurd (lacks_kept unkept reads.fault reads.fate_is)
  lacks_by run Unchanged (inl opens) l i k = absurd (no_other opens.fate_is (λ e. cc) (λ e. cc))
  lacks_by run Unchanged (inr reads) l i k = absurd (lacks_no_change reads.fault reads.fate_is)
  lacks_by run (Ended served) (inl opens) l i k = absurd (no_other opens.fate_is (λ e. cc) (λ e. cc))
  lacks_by run (Ended served) (inr reads) l i k = absurd (lacks_some served reads.fault reads.fate_is)

lacks_stream : (run : Doings) (fault : InputFault) (fate : Fate) → fate ≡ fate_without_input fault → run.lacks fate → run.idle → run.keeps → EndsBy run fate
lacks_stream run input.Read fate e l i k = subst (EndsBy run) (sym e) (subst run.lacks e l, i, k)
lacks_stream run input.TooLarge fate e l i k = subst (EndsBy run) (sym e) (subst run.lacks e l, i, k)
lacks_stream run input.Memory fate e l i k = subst (EndsBy run) (sym e) (inl (i, k))

-- A run, wherever its output goes.
module _ {I T : Type 0} (line : Line) (name : List ℕ) (input : InputSeen) (commands : CommandsSeen) (old new : DiskSeen I) (screen : T → Screen) (before after : T) (fate : Fate) where
  to_place : (b : Bool) (to : List ℕ)
      → ((term : TerminalSeen) (place : OutputSeen) → term.still → place.keeps → EndsBy (doings line input place commands term) fate)
      → after ≡ before → KeepsDisk old new → EndsIn b line to (run_seen input commands old new screen before after) fate
  to_place true to ends still kept = record { between = after; ends = ends (terminal_seen screen before after) (standard_output screen after after) still refl; files = kept }
  to_place false to ends still kept = ends (terminal_seen screen before after) (named_output old new to (replacing_of line)) still kept

  -- nothing was read or shown
  pub idle_ends : ((term : TerminalSeen) (place : OutputSeen) → term.still → place.keeps → EndsBy (doings line input place commands term) fate)
      → after ≡ before → KeepsDisk old new → Edits line name (run_seen input commands old new screen before after) fate
  idle_ends ends still kept = record { ends = to_place (is_standard_output (output_of line name)) (output_of line name) ends still kept }

  read_to : (mid : DiskSeen I) (bytes : List ℕ) (b : Bool) (to : List ℕ) → KeepsDisk old mid → input.is_input bytes
      → EndsIn b line to (run_seen (given_input bytes) commands mid new screen before after) fate → EndsIn b line to (run_seen input commands old new screen before after) fate
  read_to mid bytes true to kept given e = record { between = e.between; ends = ends_so (to_terminal {line = line} {bytes = bytes} {input = input} {to = standard_output screen e.between after} {commands = commands} {term = terminal_seen screen before e.between} given) fate e.ends; files = keeps_after kept e.files }
  read_to mid bytes false to kept given e = ends_so (to_file kept {line = line} {bytes = bytes} {input = input} {commands = commands} {term = terminal_seen screen before after} new to given) fate e

  -- After a serving that ended so, from where nothing was written.
  served_to : (output : List ℕ) (between : T) (end : Served) (place : List ℕ) (b : Bool)
      → ServesInput line input.is_input commands (terminal_seen screen before between) end output
      → FinishesIn b end output (replaces_input line) (replacing_of line) place old new screen between after fate
      → EndsIn b line place (run_seen input commands old new screen before after) fate
  served_to output between end place true s f = record { between = between; ends = ends_so (on_terminal {line = line} {input = input} {to = standard_output screen between after} {commands = commands} {term = terminal_seen screen before between} {end = end} {output = output} s (λ bytes. tt)) fate f.0; files = f.1 }
  served_to output between end place false s f =
      ends_so (after_serving {line = line} {input = input} {to = named_output old new place (replacing_of line)} {commands = commands} {term = terminal_seen screen before after} {end = end} {output = output} (subst (λ t. ServesInput line input.is_input commands (terminal_seen screen before t) end output) (sym f.1) s)) fate f.0

  over_served : {output : List ℕ} {between : T} {end : Served} {place : List ℕ} → place ≡ output_of line name
      → ServesInput line input.is_input commands (terminal_seen screen before between) end output
      → FinishesIn (is_standard_output place) end output (replaces_input line) (replacing_of line) place old new screen between after fate
      → Edits line name (run_seen input commands old new screen before after) fate
  over_served {output} {between} {end} {place} named s f =
      record { ends = subst (λ to. EndsIn (is_standard_output to) line to (run_seen input commands old new screen before after) fate) named (served_to output between end place (is_standard_output place) s f) }

  -- The input was read, and then the run was over it.
  over_read : {mid : DiskSeen I} {bytes : List ℕ} → KeepsDisk old mid → input.is_input bytes
      → Edits line name (run_seen (given_input bytes) commands mid new screen before after) fate
      → Edits line name (run_seen input commands old new screen before after) fate
  over_read {mid} {bytes} kept given e = record { ends = read_to mid bytes (is_standard_output (output_of line name)) (output_of line name) kept given e.ends }

pub finishes_otherwise : {I T : Type 0} (output name : List ℕ) (in_place : Bool) (how : Replacing) (disk : DiskSeen I) (screen : T → Screen) (term : T) (b : Bool) (end : Served) → end ≢ served.Exit
    → FinishesIn b end output in_place how name disk disk screen term term (Ended end)
finishes_otherwise output name in_place how disk screen term true end other = (ended_otherwise (doings_after end output ⊥ (standard_output screen term term)) end output other (refl, refl) refl, kept_same)
finishes_otherwise output name in_place how disk screen term false end other = (ended_otherwise (doings_after end output (IsTrue in_place) (named_output disk disk name how)) end output other (refl, refl) kept_same, refl)

-- without the input
pub lacks_file : {I T : Type 0} {line : Line} {name : List ℕ} {commands : CommandsSeen} {old new : DiskSeen I} {screen : T → Screen} {term : T} {fate : Fate}
    → Lacks line.in_place (named_input old new name) fate → commands.still → KeepsDisk old new
    → Edits line name (run_seen (named_input old new name) commands old new screen term term) fate
lacks_file {line} {name} {commands} {old} {new} {screen} {term} {fate} (inl l) still kept =
    idle_ends line name (named_input old new name) commands old new screen term term fate (λ seen place quiet keeps. lacks_by old new name (doings line (named_input old new name) place commands seen) fate l l (still, quiet) keeps) refl kept
lacks_file {line} {name} {commands} {old} {new} {screen} {term} {fate} (inr irregular) still kept =
    idle_ends line name (named_input old new name) commands old new screen term term fate
    (λ seen place quiet keeps. subst (EndsBy (doings line (named_input old new name) place commands seen)) (sym irregular.0) ((irregular.1, irregular.2), (still, quiet), keeps)) refl kept

-- without the input, wherever that comes from
pub lacks_either : {I S T : Type 0} {line : Line} {name : List ℕ} {commands : CommandsSeen} {screen : T → Screen} {term : T} {fate : Fate}
    (b : Bool) (source : SourceView S) (first last : S) (old new : DiskSeen I)
    → Lacks line.in_place (input_from b (standard_input source first last) (named_input old new name)) fate → commands.still → KeepsDisk old new
    → Edits line name (run_seen (input_from b (standard_input source first last) (named_input old new name)) commands old new screen term term) fate
lacks_either {line} {name} {commands} {screen} {term} {fate} true source first last old new (inl l) still kept =
    idle_ends line name (standard_input source first last) commands old new screen term term fate (λ seen place quiet keeps. lacks_stream (doings line (standard_input source first last) place commands seen) l.fault fate l.fate_is l (still, quiet) keeps) refl kept
lacks_either true source first last old new (inr irregular) still kept = absurd irregular.2
lacks_either false source first last old new l still kept = lacks_file l still kept

-- What was read stays so when the disk changes later.
pub read_before : {I S : Type 0} (b : Bool) (source : SourceView S) (first last : S) (old mid new : DiskSeen I) (name bytes : List ℕ) {final : S} → final ≡ last
    → (input_from b (standard_input source first last) (named_input old mid name)).is_input bytes
    → (input_from b (standard_input source first final) (named_input old new name)).is_input bytes
read_before true source first last old mid new name bytes same given = subst (λ s. (standard_input source first s).is_input bytes) (sym same) given
read_before false source first last old mid new name bytes same given = given

-- An input was read, its commands were served, and the output was written.
pub over_work : {I T : Type 0} (line : Line) (name : List ℕ) (input : InputSeen) (commands : CommandsSeen) (old mid new : DiskSeen I) (screen : T → Screen)
    (before between after : T) (fate : Fate) {bytes place : List ℕ} {first history : History} {end : Served}
    → KeepsDisk old mid → input.is_input bytes → place ≡ output_of line name → first ≡ history_over line commands.depth bytes
    → Serves (allowance (bounds_of line (length bytes)) commands.asked) (manner_of line) commands.gave commands.ended (Shows (screen before) (screen between)) first history end
    → FinishesIn (is_standard_output place) end (present history).output (replaces_input line) (replacing_of line) place mid new screen between after fate
    → Edits line name (run_seen input commands old new screen before after) fate
over_work line name input commands old mid new screen before between after fate {bytes} {place} {first} {history} {end} kept given named begins serves finishes =
    over_read line name input commands old new screen before after fate kept given
    (over_served line name (given_input bytes) commands mid new screen before after fate named (record {
      input = bytes;
      input_is = refl;
      history = history;
      serves = subst (λ (h : History). Serves (allowance (bounds_of line (length bytes)) commands.asked) (manner_of line) commands.gave commands.ended (Shows (screen before) (screen between)) h history end) begins serves;
      output_is = refl;
    }) finishes)

-- A write that was done after an exit.
pub written : (run : Doings) (output : List ℕ) (unkept : Option Unkept) → run.serves served.Exit output → run.writes output → run.unkept unkept → EndsBy run (fate_written unkept)
written run output None s w u = (output, s, w, u)
written run output (Some unkept) s w u = (output, s, w, u)

-- A failed write after an exit.
pub failed_write : (run : Doings) (output : List ℕ) (fate : Fate) {error : Error} → ComesTo error NoMemory NoOutput fate → run.serves served.Exit output → run.fails output fate → EndsBy run fate
failed_write run output (NoOutput other) is s f = (output, s, f)
failed_write run output NoMemory is s f = inr (output, s, f)
failed_write run output (NoCommands other) is s f = absurd (no_other is (λ e. cc) (λ e. cc))
failed_write run output (NoInput other) is s f = absurd (no_other is (λ e. cc) (λ e. cc))
failed_write run output NotRegular is s f = absurd (no_other is (λ e. cc) (λ e. cc))
failed_write run output LargeInput is s f = absurd (no_other is (λ e. cc) (λ e. cc))
failed_write run output (NoBackup other) is s f = absurd (no_other is (λ e. cc) (λ e. cc))
failed_write run output Changed is s f = absurd (no_other is (λ e. cc) (λ e. cc))
failed_write run output (Lacking unkept) is s f = absurd (no_other is (λ e. cc) (λ e. cc))
failed_write run output Unchanged is s f = absurd (no_other is (λ e. cc) (λ e. cc))
failed_write run output (Ended end) is s f = absurd (no_other is (λ e. cc) (λ e. cc))

-- The old bytes could not be kept after an exit.
pub failed_keeping : (run : Doings) (output : List ℕ) (fate : Fate) {error : Error} → ComesTo error NoMemory NoBackup fate → run.serves served.Exit output → run.fails output fate → EndsBy run fate
failed_keeping run output (NoBackup other) is s f = (output, s, f)
failed_keeping run output NoMemory is s f = inr (output, s, f)
failed_keeping run output (NoOutput other) is s f = absurd (no_other is (λ e. cc) (λ e. cc))
failed_keeping run output (NoCommands other) is s f = absurd (no_other is (λ e. cc) (λ e. cc))
failed_keeping run output (NoInput other) is s f = absurd (no_other is (λ e. cc) (λ e. cc))
failed_keeping run output NotRegular is s f = absurd (no_other is (λ e. cc) (λ e. cc))
failed_keeping run output LargeInput is s f = absurd (no_other is (λ e. cc) (λ e. cc))
failed_keeping run output Changed is s f = absurd (no_other is (λ e. cc) (λ e. cc))
failed_keeping run output (Lacking unkept) is s f = absurd (no_other is (λ e. cc) (λ e. cc))
failed_keeping run output Unchanged is s f = absurd (no_other is (λ e. cc) (λ e. cc))
failed_keeping run output (Ended end) is s f = absurd (no_other is (λ e. cc) (λ e. cc))

-- Where no read of the commands can fail, no run ends by a failed read.
reads_to : {I T : Type 0} (line : Line) (to : List ℕ) (run : RunSeen I T) (b : Bool) → ((bytes : List ℕ) → run.commands.gave bytes true → ⊥)
    → EndsIn b line to run (Ended served.ReadFault) → ⊥
reads_to line to run true never e = never e.ends.1.serves.bytes e.ends.1.serves.read
reads_to line to run false never e = never e.1.serves.bytes e.1.serves.read

pub reads_all : {I T : Type 0} {line : Line} {name : List ℕ} {run : RunSeen I T} {fate : Fate} → ((bytes : List ℕ) → run.commands.gave bytes true → ⊥)
    → Edits line name run fate → fate ≢ Ended served.ReadFault
reads_all {line} {name} {run} never e is = reads_to line (output_of line name) run (is_standard_output (output_of line name)) never (subst (EndsIn (is_standard_output (output_of line name)) line (output_of line name) run) is e.ends)

-- With an output in a file, from where nothing else was shown.
pub finishes_in_file : {I T : Type 0} (output name : List ℕ) (in_place : Bool) (how : Replacing) (before after : DiskSeen I) (screen : T → Screen) (term : T) (fate : Fate) {end : Served}
    → end ≡ served.Exit → is_standard_output name ≡ false → EndsBy (doings_after served.Exit output (IsTrue in_place) (named_output before after name how)) fate
    → FinishesIn (is_standard_output name) end output in_place how name before after screen term term fate
finishes_in_file output name in_place how before after screen term fate exit apart e =
    subst (λ s. FinishesIn (is_standard_output name) s output in_place how name before after screen term term fate) (sym exit)
    (subst (λ b. FinishesIn b served.Exit output in_place how name before after screen term term fate) (sym apart) (e, refl))

-- With an output on the terminal.
pub finishes_on_terminal : {I T : Type 0} (output name : List ℕ) (in_place : Bool) (how : Replacing) (disk : DiskSeen I) (screen : T → Screen) (old new : T) (fate : Fate) {end : Served}
    → end ≡ served.Exit → is_standard_output name ≡ true → EndsBy (doings_after served.Exit output ⊥ (standard_output screen old new)) fate
    → FinishesIn (is_standard_output name) end output in_place how name disk disk screen old new fate
finishes_on_terminal output name in_place how disk screen old new fate exit here e =
    subst (λ s. FinishesIn (is_standard_output name) s output in_place how name disk disk screen old new fate) (sym exit)
    (subst (λ b. FinishesIn b served.Exit output in_place how name disk disk screen old new fate) (sym here) (e, kept_same))

-- The commands were opened on the disk before: a run from there on is one from before.
module _ {I : Type 0} (old mid new : DiskSeen I) (kept : KeepsDisk old mid) (stream : InputSeen) (name : List ℕ) where
  pub lacks_from : (b : Bool) (fate : Fate) → (input_from b stream (named_input mid new name)).lacks fate → (input_from b stream (named_input old new name)).lacks fate
  lacks_from true fate l = l
  lacks_from false fate l = lacks_after kept new name fate l

  pub is_input_from : (b : Bool) (bytes : List ℕ) → (input_from b stream (named_input mid new name)).is_input bytes → (input_from b stream (named_input old new name)).is_input bytes
  is_input_from true bytes i = i
  is_input_from false bytes i = record { small = i.small; whole = λ before told. i.whole before (kept.files ∙ told) }

  pub irregular_from : (b : Bool) → (input_from b stream (named_input mid new name)).is_irregular → (input_from b stream (named_input old new name)).is_irregular
  irregular_from true i = i
  irregular_from false i = λ there.
      let given = i (λ none. there (sym kept.files ∙ none)) in
      (given.0, ap (λ (streams : Files). streams name) (sym kept.streams) ∙ given.1)

  serves_from : (b : Bool) (line : Line) (commands : CommandsSeen) (term : TerminalSeen) (end : Served) (output : List ℕ)
      → ServesInput line (input_from b stream (named_input mid new name)).is_input commands term end output → ServesInput line (input_from b stream (named_input old new name)).is_input commands term end output
  serves_from b line commands term end output s = record {
    input = s.input;
    input_is = is_input_from b s.input s.input_is;
    history = s.history;
    serves = s.serves;
    output_is = s.output_is;
  }

  in_file_from : (b : Bool) (line : Line) (to : List ℕ) (commands : CommandsSeen) (term : TerminalSeen)
      → Leads (doings line (input_from b stream (named_input mid new name)) (named_output mid new to (replacing_of line)) commands term) (doings line (input_from b stream (named_input old new name)) (named_output old new to (replacing_of line)) commands term)
  in_file_from b line to commands term = record {
    lacks = lacks_from b;
    refuses = λ r. (r.0, irregular_from b r.1);
    idle = λ i. i;
    keeps = keeps_after kept;
    serves = serves_from b line commands term;
    writes = λ output w. ((λ over. as_read_after kept new to (replacing_of line) output (w.0 over)), writes_after kept w.1);
    fails = λ output fate f. fails_after kept f;
    same = λ output h. (h.0, λ before told. h.1 before (kept.files ∙ told));
    changed = λ output h. (h.0, change_after kept h.1);
    unkept = λ what u. u;
  }

  on_terminal_from : (b : Bool) (line : Line) (to : OutputSeen) (commands : CommandsSeen) (term : TerminalSeen)
      → Leads (doings line (input_from b stream (named_input mid new name)) to commands term) (doings line (input_from b stream (named_input old new name)) to commands term)
  on_terminal_from b line to commands term = record {
    lacks = lacks_from b;
    refuses = λ r. (r.0, irregular_from b r.1);
    idle = λ i. i;
    keeps = λ k. k;
    serves = serves_from b line commands term;
    writes = λ output w. w;
    fails = λ output fate f. f;
    same = λ output h. h;
    changed = λ output h. h;
    unkept = λ what u. u;
  }

  ends_from : {T : Type 0} (place b : Bool) (line : Line) (to : List ℕ) (commands : CommandsSeen) (screen : T → Screen) (before after : T) (fate : Fate)
      → EndsIn place line to (run_seen (input_from b stream (named_input mid new name)) commands mid new screen before after) fate
      → EndsIn place line to (run_seen (input_from b stream (named_input old new name)) commands old new screen before after) fate
  ends_from true b line to commands screen before after fate e = record {
    between = e.between;
    ends = ends_so (on_terminal_from b line (standard_output screen e.between after) commands (terminal_seen screen before e.between)) fate e.ends;
    files = keeps_after kept e.files;
  }
  ends_from false b line to commands screen before after fate e = ends_so (in_file_from b line to commands (terminal_seen screen before after)) fate e

  pub edits_from : {T : Type 0} (b : Bool) (line : Line) (commands : CommandsSeen) (screen : T → Screen) (before after : T) (fate : Fate)
      → Edits line name (run_seen (input_from b stream (named_input mid new name)) commands mid new screen before after) fate
      → Edits line name (run_seen (input_from b stream (named_input old new name)) commands old new screen before after) fate
  edits_from b line commands screen before after fate e =
      record { ends = ends_from (is_standard_output (output_of line name)) b line (output_of line name) commands screen before after fate e.ends }
