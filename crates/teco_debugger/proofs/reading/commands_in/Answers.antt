use Rattle.std.proofs.Common.{◌≡◌, Err, rules, subst}
use Rattle.teco_source.specs.Seen.{IsReadAs}
use Rattle.teco_source.specs.Source.{commands_of}
use Rattle.teco_source.specs.declared.reader.ReaderFault.{ReaderFault}
use Rattle.teco_source.specs.declared.reader.ReaderFault.TheVariants as fault
use Rattle.teco_debugger.proofs.Carets.{caret_within}
use Rattle.teco_debugger.proofs.reading.commands_in.Goals as goal

pub spot_of-requires : goal.spot_of-requires
spot_of-requires c =
    let same : c.in-Err-Caret.field-0 ≡ fault.Caret c.in-Err-Caret.place = first_of (cc, search rules) in
    caret_within c.args.source.now c.in-Err-Caret.place (subst (λ (f : ReaderFault). IsReadAs (commands_of c.args.source.now) (Err f)) same c.in-Err-Caret.ensures.reads)

pub returns-in-Err-Caret-clause-read : goal.returns-in-Err-Caret-clause-read
returns-in-Err-Caret-clause-read c = tt
