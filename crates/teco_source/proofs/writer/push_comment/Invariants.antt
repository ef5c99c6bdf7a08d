use Rattle.std.proofs.Common.{◌≡◌, ◌++◌, map, take}
use Rattle.teco_source.specs.Listing.{in_comment}
use Rattle.teco_source.proofs.writer.push_comment.Given as goal

abbrev pub invariant-loop-byte : goal.invariant-loop-byte
invariant-loop-byte l = l.out.items ≡ l.fn.out.items ++ map in_comment (take l.byte-index l.text)
