use Rattle.std.proofs.Common.{◌≡◌}
use Rattle.memchr.specs.Find.{Nowhere}
use Rattle.teco_search.specs.Window.{window_number, IsLike}
use Rattle.teco_search.proofs.window.Needle.first_like.Given as goal

abbrev pub invariant-starts : goal.invariant-starts
invariant-starts l = record {
  number : l.number ≡ window_number l.text l.start l.self.len;
  none : Nowhere (IsLike l.text l.self) l.from l.start;
}
