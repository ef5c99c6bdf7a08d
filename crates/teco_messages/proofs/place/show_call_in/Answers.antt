use Rattle.std.proofs.Common.{◌≡◌, ◌∙◌, ◌++◌, ◌∷◌, ap}
use Rattle.std.specs.Prelude.{codes}
use Rattle.std.specs.String.{string_bytes}
use Rattle.std.proofs.lemmas.Result.{on_ok_weaker}
use Rattle.std.proofs.lemmas.Str.{encode_ascii}
use Rattle.teco_messages.specs.Shown.{place_shown}
use Rattle.teco_messages.specs.Placed.{register_name}
use Rattle.teco_messages.proofs.Calls.{name_is_small, two}
use Rattle.teco_messages.proofs.place.show_call_in.Goals as goal

pub returns : goal.returns
returns c =
    let old = string_bytes c.args.out.now in
    let mid = string_bytes c.write.new.self in
    let called = codes " is called at " in
    let low = name_is_small c.letter-name.result c.args.call.now.register c.letter-name.ensures.names in
    let first : mid ≡ old ++ (register_name c.args.call.now.register ∷ called) =
    c.in_ok-write.ensures.bytes ∙ ap (λ n. old ++ (n ++ called)) (encode_ascii c.letter-name.result low) ∙ ap (λ n. old ++ (n ∷ called)) c.letter-name.ensures.value in
    on_ok_weaker c.show_spot.result (λ e. two old mid (string_bytes c.show_spot.new.out) (register_name c.args.call.now.register ∷ called) (place_shown c.args.text.now c.args.call.now.at) first e) c.show_spot.ensures
