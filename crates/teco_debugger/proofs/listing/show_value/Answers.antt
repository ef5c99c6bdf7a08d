use Rattle.std.proofs.Common.{◌≡◌, ◌∙◌, ◌++◌, ◌∷◌, [], ap, rules}
use Rattle.std.proofs.Math.Utf8.{encode}
use Rattle.std.proofs.lemmas.Result.{on_ok_weaker}
use Rattle.std.proofs.lemmas.Str.{encode_ascii}
use Rattle.std.specs.Fmt.{signed_decimal}
use Rattle.std.specs.Prelude.{codes}
use Rattle.std.specs.String.{string_bytes}
use Rattle.teco_core.specs.Register.{content}
use Rattle.teco_messages.specs.Placed.{register_name}
use Rattle.teco_debugger.specs.Listing.{held_shown}
use Rattle.teco_debugger.proofs.Texts.{three_texts}
use Rattle.teco_messages.proofs.Calls.{name_is_small, put_behind}
use Rattle.teco_debugger.proofs.listing.show_value.Goals as goal

pub returns : goal.returns
returns c =
    let held = content c.args.registers.now c.args.q in
    let old = string_bytes c.args.out.now in
    let one = string_bytes c.write.new.self in
    let two = string_bytes c.show_held.new.out in
    let name = c.letter-name.result in
    let number = c.number-number.result in
    let written : one ≡ old ++ (encode name ++ (codes ": " ++ signed_decimal number)) = search rules in
    let letter_is = encode_ascii name (name_is_small name c.args.q c.letter-name.ensures.names) ∙ ap (λ l. l ∷ []) c.letter-name.ensures.value in
    let name_is =
    written ∙ ap (λ l. old ++ (l ++ (codes ": " ++ signed_decimal number))) letter_is ∙ ap (λ n. old ++ (register_name c.args.q ∷ codes ": " ++ signed_decimal n)) c.number-number.ensures in
    let text_is = c.in_ok-show_held.ensures ∙ ap (λ text. one ++ held_shown text c.args.most) c.text.ensures in
    on_ok_weaker c.push_str.result
    (λ e. three_texts old one two (string_bytes c.push_str.new.self) (register_name c.args.q ∷ codes ": " ++ signed_decimal held.number) (held_shown held.text c.args.most) (10 ∷ []) name_is text_is e)
    (put_behind c.push_str.result two (string_bytes c.push_str.new.self) (10 ∷ []) c.push_str.ensures.bytes)
