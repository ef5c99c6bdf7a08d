use Rattle.std.proofs.Common.{◌∙◌, ◌++◌, ap, length, sym}
use Rattle.std.proofs.lemmas.Bool.{le-ltb, lt-ltb}
use Rattle.std.proofs.lemmas.Result.{on_ok_weaker}
use Rattle.std.specs.Prelude.{Bool, codes, if◌then◌else◌}
use Rattle.std.specs.String.{string_bytes}
use Rattle.teco_messages.specs.Shown.{spot_shown}
use Rattle.teco_messages.specs.Spot.{spot_of}
use Rattle.teco_messages.proofs.Calls.{put_behind}
use Rattle.teco_messages.proofs.place.show_spot.Goals as goal

pub returns-then-at-text : goal.returns-then-at-text
returns-then-at-text c =
    let old = string_bytes c.args.out.now in
    let text = c.args.text.now in
    let changed = codes "a text that is changed" in
    on_ok_weaker c.push_str.result
    (λ e. e ∙ ap (λ (b : Bool). old ++ (if b then changed else spot_shown (spot_of text c.args.at))) (sym (lt-ltb (length text) c.args.at c.if-at-text.true)))
    (put_behind c.push_str.result old (string_bytes c.push_str.new.self) changed c.push_str.ensures.bytes)

pub returns : goal.returns
returns c =
    let old = string_bytes c.args.out.now in
    let text = c.args.text.now in
    let changed = codes "a text that is changed" in
    on_ok_weaker c.write.result
    (λ e. e ∙ ap (λ s. old ++ spot_shown s) c.spot_of-spot.ensures
    ∙ ap (λ (b : Bool). old ++ (if b then changed else spot_shown (spot_of text c.args.at))) (sym (le-ltb (length text) c.args.at c.if-at-text.false)))
    c.write.ensures.bytes
