use Rattle.teco_search.proofs.PlainBytes.{plain_anchored}
use Rattle.teco_search.proofs.anchor.Anchor.of_bytes.Goals as goal

pub returns : goal.returns
returns c = plain_anchored c.args.mode c.args.bytes.now (record { offset = c.rarest_byte-offset.result; bytes = c.bytes_of.result }) c.rarest_byte-offset.ensures c.bytes_of.ensures
