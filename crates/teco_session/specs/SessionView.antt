-- A session, as contracts see it.
use Rattle.teco_session.specs.Entries.{strings_of, depth_of}
use Rattle.teco_session.specs.Kept.{KeptSession}
use Rattle.teco_session.specs.declared.session.Session.TheInside.{Inside}

abbrev pub kept_session : Inside → KeptSession
kept_session s = record {
  editor = s.recorder.full;
  strings = strings_of s.entries;
  cursor = s.cursor;
  depth = depth_of s.entries;
}
