use Rattle.std.proofs.Common.{◌≡◌, ◌∙◌, ◌++◌, ◌∷◌, [], ap, append-nil, sym}
use Rattle.std.proofs.lemmas.Result.{on_ok_weaker}
use Rattle.std.proofs.lemmas.Str.{encode_ascii}
use Rattle.std.specs.List.{slice_get}
use Rattle.std.specs.Option.{option_copied}
use Rattle.std.specs.String.{string_bytes}
use Rattle.teco_messages.specs.Placed.{name_of_call, text_under}
use Rattle.teco_messages.specs.Shown.{place_shown}
use Rattle.teco_messages.proofs.Calls.{name_is_small, two}
use Rattle.teco_messages.proofs.place.show_place.Goals.{in-Some+in_ok-write, in_default}
use Rattle.teco_messages.proofs.place.show_place.Goals as goal

pub returns : goal.returns
returns c =
    let place = c.args.place.now in
    let old = string_bytes c.args.out.now in
    let mid = string_bytes c.match-first.out in
    let first = c.first.ensures.value ∙ ap (λ xs. slice_get xs 0) c.deref.ensures.value in
    let named : mid ≡ old ++ name_of_call (slice_get place.calls.items 0) = elim c.match-first.branch [
      | in-Some+in_ok-write w ↦
          let name = w.letter-name.result in
          ap string_bytes w.out-is
          ∙ (w.in_ok-write.ensures.bytes ∙ ap (λ n. old ++ (n ++ 32 ∷ [])) (encode_ascii name (name_is_small name w.in-Some.call.now.register w.letter-name.ensures.names))
          ∙ ap (λ n. old ++ (n ∷ 32 ∷ [])) w.letter-name.ensures.value) ∙ ap (λ o. old ++ name_of_call o) (ap option_copied (sym w.in-Some.is) ∙ first)
      | in_default w ↦ ap string_bytes w.out-is ∙ sym (append-nil old) ∙ ap (λ o. old ++ name_of_call o) (ap option_copied (sym w.in_default.is) ∙ first)
    ] in
    on_ok_weaker c.show_spot.result
    (λ e. two old mid (string_bytes c.show_spot.new.out) (name_of_call (slice_get place.calls.items 0)) (place_shown (text_under place 0 c.args.registers.now c.args.string.now) place.at) named
    (e ∙ ap (λ t. mid ++ place_shown t place.at) c.text_under.ensures)) c.show_spot.ensures
