-- What a recorder leaves leads back to where it began.
use Rattle.std.proofs.Common.{◌≡◌, ℕ, ◌≤◌, List, [], ◌∷◌, length, take, refl, sym, ◌∙◌, ap, arith}
use Rattle.std.proofs.lemmas.List.{length-take-le}
use Rattle.teco_store.specs.State.{State, Body, Full, IsSound, state_at, state_of}
use Rattle.teco_store.specs.Trail.{Trail}
use Rattle.teco_store.specs.Turn.{Note}
use Rattle.teco_undo.specs.Entry.{body_back, since}
use Rattle.teco_undo.specs.Follows.{Recording, Follows, LeadsBack}
use Rattle.teco_undo.proofs.Entries.{shown_back_all}
use Rattle.teco_undo.proofs.Recordings.{since_high}

since_zero : (xs : List Note) → since 0 xs ≡ xs
since_zero [] = refl
since_zero (x ∷ xs) = since_high 0 x xs (omega arith)

-- a state as a body, with so many bytes of output
with_end : ℕ → State → Body
with_end n s = record {
  profile = s.profile;
  text = s.text;
  pointer = s.pointer;
  registers = s.registers;
  pushed = s.pushed;
  input = s.input;
  place = s.place;
  page_lines = s.page_lines;
  output = n;
  form_feed = s.form_feed;
  last_search = s.last_search;
  last_found = s.last_found;
  is_done = s.is_done;
  case_mode = s.case_mode;
}

-- equal states of stored outputs are equal bodies
pub body_of_state : (st st' : List ℕ) (b c : Body) → b.output ≤ length st → c.output ≤ length st' → state_at st b ≡ state_at st' c → b ≡ c
unfolding with_end
body_of_state st st' b c hb hc e =
    let out : take b.output st ≡ take c.output st' = ap (λ (s : State). s.output) e in
    let x : length (take b.output st) ≡ b.output = length-take-le b.output st hb in
    let y : length (take c.output st') ≡ c.output = length-take-le c.output st' hc in
    let same : b.output ≡ c.output = sym x ∙ ap length out ∙ y in
    ap (with_end b.output) e ∙ ap (λ (n : ℕ). with_end n (state_at st' c)) same

pub leads : (old : Full) (r : Recording) (t : Trail) → IsSound old.room (length old.stored) old.body → t.states 0 ≡ state_of old → t.floor ≡ old.room
    → Follows r t → LeadsBack old r.full r.notes
leads old r t sound first floor f =
    let b0 : Body = body_back r.notes r.full.body in
    let low : b0.output ≤ r.full.body.output = shown_back_all r.full.room r.notes r.full.body f.turns.fits in
    let top = f.turns.sound.stored in let within = sound.stored in
    let start : state_at r.full.stored b0 ≡ state_of old =
    ap (λ (xs : List Note). state_at r.full.stored (body_back xs r.full.body)) (sym (since_zero r.notes)) ∙ f.leads.states 0 (omega arith) ∙ first in
    let back : b0 ≡ old.body = body_of_state r.full.stored old.stored b0 old.body (omega arith) within start in
    record {
      room = let x = f.turns.floor in omega arith;
      sound = f.turns.sound;
      fits = f.turns.fits;
      body = back;
      stored = ap (λ (b : Body). take b.output r.full.stored) (sym back) ∙ ap (λ (s : State). s.output) start;
    }
