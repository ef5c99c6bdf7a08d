use Rattle.std.proofs.Common.{◌≡◌}
use Rattle.memchr.specs.Find.{IsLast}
use Rattle.teco_search.specs.Window.{window_number, IsLike}
use Rattle.teco_search.proofs.window.Needle.last_like.Given as goal

abbrev pub invariant-starts : goal.invariant-starts
invariant-starts l = record {
  number : l.number ≡ window_number l.text l.start l.self.len;
  last : IsLast (IsLike l.text l.self) l.from l.start l.last;
}
