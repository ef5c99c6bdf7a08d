use Rattle.std.proofs.Common.{◌≡◌, ℕ, length, take, Some, ap, ◌∙◌}
use Rattle.std.specs.Prelude.{decimal}
use Rattle.teco_journal.proofs.Parsing.{rewind_end, rewind_steps}
use Rattle.teco_journal.proofs.words.rewind_in.Goals as goal

pub returns-in_default-number : goal.returns-in_default-number
returns-in_default-number c = λ steps fits is.
    let at : c.memchr.result ≡ Some (length (decimal steps)) = rewind_end c.args.rest.now steps fits is c.memchr.result c.memchr.ensures in
    let end : c.in-Some.end ≡ length (decimal steps) = cc in
    let read : c.number.result ≡ Some steps = c.number.ensures steps fits (ap (λ (i : ℕ). take i c.args.rest.now) end ∙ rewind_steps c.args.rest.now steps fits is) in
    cc

pub returns : goal.returns
returns c = λ steps fits is.
    let at : c.memchr.result ≡ Some (length (decimal steps)) = rewind_end c.args.rest.now steps fits is c.memchr.result c.memchr.ensures in
    let end : c.in-Some.end ≡ length (decimal steps) = cc in
    let read : c.number.result ≡ Some steps = c.number.ensures steps fits (ap (λ (i : ℕ). take i c.args.rest.now) end ∙ rewind_steps c.args.rest.now steps fits is) in
    cc
