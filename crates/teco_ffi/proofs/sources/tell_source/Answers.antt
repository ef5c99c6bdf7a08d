use Rattle.std.proofs.Common.{◌≡◌, Err, arith, rules, subst}
use Rattle.teco_source.specs.Seen.{IsReadAs}
use Rattle.teco_source.specs.Source.{commands_of}
use Rattle.teco_source.specs.declared.reader.ReaderFault.{ReaderFault}
use Rattle.teco_source.specs.declared.reader.ReaderFault.TheVariants as fault
use Rattle.teco_ffi.proofs.SourcePlaces.{bytes_within, caret_within}
use Rattle.teco_ffi.proofs.sources.tell_source.Goals as goal

pub spot_of-spot-requires : goal.spot_of-spot-requires
spot_of-spot-requires c =
    let same : c.in-Err-Caret.field-0 ≡ fault.Caret c.in-Err-Caret.place = first_of (cc, search rules) in
    caret_within c.args.source.now c.in-Err-Caret.place (subst (λ (f : ReaderFault). IsReadAs (commands_of c.args.source.now) (Err f)) same c.in-Err-Caret.ensures.reads)

pub returns-in-Ok-clause-within : goal.returns-in-Ok-clause-within
returns-in-Ok-clause-within c =
    let few = bytes_within c.args.source.now c.in-Ok.bytes.items c.in-Ok.ensures.reads in
    let many = c.len-told.ensures in
    let own = c.in-Ok.bytes.ok in
    omega (arith, few, many, own)
