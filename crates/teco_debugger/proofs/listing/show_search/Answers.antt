use Rattle.std.proofs.Common.{◌≡◌, ◌++◌, ◌∷◌, [], List, Option, Bool, sym, subst, ℕ}
use Rattle.std.specs.Prelude.{OnOk, codes}
use Rattle.std.specs.String.{string_bytes}
use Rattle.teco_store.specs.State.{state_of}
use Rattle.teco_debugger.specs.Listing.{last_search_shown, last_shown, search_shown}
use Rattle.teco_messages.proofs.Calls.{put_behind}
use Rattle.teco_debugger.proofs.listing.show_search.Goals as goal

pub returns-in-None : goal.returns-in-None
unfolding last_search_shown search_shown
returns-in-None c =
    let s = state_of c.args.editor.now in
    let old = string_bytes c.args.out.now in
    let new = string_bytes c.push_str.new.self in
    subst (λ (o : Option (List ℕ)). OnOk c.push_str.result (new ≡ old ++ search_shown o s.last_found)) (sym c.in-None.ensures.value)
    (put_behind c.push_str.result old new (codes "no search yet" ++ 10 ∷ []) c.push_str.ensures.bytes)

pub returns-in-Some : goal.returns-in-Some
unfolding last_search_shown search_shown
returns-in-Some c =
    let s = state_of c.args.editor.now in
    let old = string_bytes c.args.out.now in
    let by_found = subst (λ (found : Bool). OnOk c.show_last.result (string_bytes c.show_last.new.out ≡ old ++ last_shown c.in-Some.text.now found)) c.last_result.ensures c.show_last.ensures in
    subst (λ (o : Option (List ℕ)). OnOk c.show_last.result (string_bytes c.show_last.new.out ≡ old ++ search_shown o s.last_found)) (sym c.in-Some.ensures.value) by_found
