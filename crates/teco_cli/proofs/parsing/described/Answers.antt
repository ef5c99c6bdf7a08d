use Rattle.std.proofs.Common.{ap, true, ◌∙◌}
use Rattle.clap.specs.Simple.{App, app_of_fields, on_top}
use Rattle.teco_cli.proofs.parsing.described.Goals as goal

abbrev overriding : App → App
overriding = on_top (λ shape. record shape { args_override_self = true })

abbrev telling : App → App
telling app = overriding (on_top (λ shape. record shape { has_version = true }) app)

pub returns : goal.returns
returns c =
    ap app_of_fields c.args_override_self.ensures ∙ ap (λ f. overriding (app_of_fields f)) c.version.ensures
    ∙ ap (λ f. telling (app_of_fields f)) c.override_usage.ensures
    ∙ ap (λ f. telling (app_of_fields f)) c.after_help.ensures ∙ ap (λ f. telling (app_of_fields f)) c.about.ensures
    ∙ ap telling c.new.ensures.app
