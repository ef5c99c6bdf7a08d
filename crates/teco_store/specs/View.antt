-- What contracts see of an editor.
use Rattle.std.specs.Prelude.{length, option_map}
use Rattle.teco_gap.specs.Gap.{text}
use Rattle.teco_store.specs.Output.{bytes_of, IsIn}
use Rattle.teco_store.specs.State.{Body, Full, IsSound}
use Rattle.teco_store.specs.declared.editor.Editor.TheInside.{Inside}

abbrev pub body_in : Inside → Body
body_in e = record {
  profile = e.profile;
  text = text e.text;
  pointer = e.pointer;
  registers = e.registers;
  pushed = e.pushed;
  input = e.input.items;
  place = e.place;
  page_lines = e.page_lines;
  output = e.shown;
  form_feed = e.form_feed;
  last_search = option_map (λ v. v.items) e.last_search;
  last_found = e.last_found;
  is_done = e.done;
  case_mode = e.case_mode;
}

abbrev pub full_in : Inside → Full
full_in e = record { body = body_in e; stored = bytes_of e.output e.input.items; room = e.text.cap }

-- Its body is sound, and the parts of the output that are not copied lie in the input.
abbrev pub IsEditor : Inside → Type 0
IsEditor e = IsSound e.text.cap (length (bytes_of e.output e.input.items)) (body_in e)
    × IsIn e.output e.input.items
