use Rattle.std.proofs.Common.{◌≡◌, ◌++◌, subst, sym}
use Rattle.std.specs.Prelude.{OnOk}
use Rattle.std.specs.String.{string_bytes}
use Rattle.teco_core.specs.declared.code.Code.{Code}
use Rattle.teco_messages.specs.Shown.{reason_with}
use Rattle.teco_messages.proofs.sentence.show_reason_with.Goals as goal

pub returns-in-Lim : goal.returns-in-Lim
returns-in-Lim c =
    subst (λ (k : Code). OnOk c.show_limit_reason.result (string_bytes c.show_limit_reason.new.out ≡ string_bytes c.args.out.now ++ reason_with c.args.limits k)) (sym c.in-Lim.is) c.show_limit_reason.ensures

pub returns-in-Big : goal.returns-in-Big
returns-in-Big c =
    subst (λ (k : Code). OnOk c.write.result (string_bytes c.write.new.self ≡ string_bytes c.args.out.now ++ reason_with c.args.limits k)) (sym c.in-Big.is) c.write.ensures.bytes
