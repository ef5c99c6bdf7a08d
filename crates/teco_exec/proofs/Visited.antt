-- Where a run stood before each step that it did, as a watch is told it.
use Rattle.std.proofs.Common.{◌≡◌, ◌⊎◌, inl, inr, is_some, ℕ, suc, ◌≤◌, ◌<◌, List, [], ◌∷◌, length, true, false, Option, Some, None, refl, sym, ap, subst, ◌∙◌, arith, ltb, max}
use Rattle.teco_core.specs.declared.profile.Profile.{Profile}
use Rattle.teco_scan.specs.Breaks.{IsTokenPlace}
use Rattle.teco_exec.specs.Machine.{Caller}
use Rattle.teco_exec.specs.Places.{CallToken, HaveCalled, IsCallOf, IsReadAt, Told, call_token, open_turns, IsVisit, Wanted, StoodThrough, NoneIsWanted, IsFirstWanted, FindsWanted}
use Rattle.teco_exec.specs.Running.{caller, Host, Origin, RunGoesOn, StandsSomewhere, StandsWhereTold, at_register_call}
use Rattle.teco_exec.specs.View.{cursor}
use Rattle.teco_exec.specs.declared.cursor.Cursor.{Cursor}
use Rattle.teco_exec.proofs.Placings.{has_place, lands, read_on, stopped_place, call_told_here}
use Rattle.teco_exec.proofs.Stepped.{up_to}

-- as many calls are told as texts have called
pub as_many_calls : (p : Profile) (xs : List CallToken) (callers : List Caller) → HaveCalled p xs callers [] → length xs ≡ length callers
unfolding HaveCalled
as_many_calls p [] callers h = ap length (sym h)
as_many_calls p (x ∷ xs) [] h = absurd h
as_many_calls p (x ∷ xs) (b ∷ callers) h = ap suc (as_many_calls p xs callers h.1)

-- One call more is open.
pub one_call_more : (p : Profile) (b : Caller) (callers : List Caller) (x : CallToken) (xs : List CallToken) → IsCallOf p b x → HaveCalled p xs callers [] → HaveCalled p (x ∷ xs) (b ∷ callers) []
unfolding HaveCalled
one_call_more p b callers x xs is h = (is, h)

pub no_call_open : (p : Profile) → HaveCalled p [] [] []
unfolding HaveCalled
no_call_open p = refl

-- a call that is made at a place
pub call_made : (c : Cursor) (q at : ℕ) → at ≤ length c.text.bytes.now → IsReadAt c.text.profile c.text.bytes.now at (Some (call_token q)) (cursor c).left → (x : CallToken) × IsCallOf c.text.profile (caller c) x
call_made c q at within read =
    let place = has_place c.text.bytes.now at within in (
      record { register = q; at = place.0; turns = open_turns (cursor c).blocks },
      record { here = lands c.text.bytes.now at place.0 place.1; read = read_on c.text.profile c.text.bytes.now at place.0 (Some (call_token q)) (cursor c).left place.1 read; turns = refl },
    )

abbrev told_with : ℕ → Cursor → ℕ → List CallToken → Told
told_with k c to xs = record { profile = c.text.profile; steps = k; text = c.text.bytes.now; at = to; turns = open_turns (cursor c).blocks; calls = xs }

module _ (o : Origin) (c : Cursor) (callers : List Caller) (xs : List CallToken) (called : HaveCalled c.text.profile xs callers []) (k depth : ℕ) (deep : length callers ≡ depth) where
  -- Where a run stands, that is a visit of that place.
  visited_so : (to : ℕ) → StandsWhereTold o [] (told_with k c to xs) → IsVisit o.state o.text k depth to
  visited_so to w = record {
    told = told_with k c to xs;
    stood = stopped_place o k (told_with k c to xs) w refl;
    steps_are = refl;
    calls_are = as_many_calls c.text.profile xs callers called ∙ deep;
    at_is = refl;
  }

  -- before a step at a cursor
  pub visited_at : (new : Cursor) (to : ℕ) → new.text ≡ c.text → StandsSomewhere o k c callers → IsTokenPlace new.text.bytes.now c.at to → IsVisit o.state o.text k depth to
  visited_at new to text w place =
      let here : IsTokenPlace c.text.bytes.now c.at to = subst (λ t. IsTokenPlace t.bytes.now c.at to) text place in
      visited_so to (record {
        there = w.there;
        stands = w.stands;
        told = record {
          profile = sym w.is.profile;
          text = sym w.is.text;
          here = subst (λ t. IsTokenPlace t to to) (sym w.is.text) (lands c.text.bytes.now c.at to here);
          read = subst (λ p. IsReadAt p w.there.text to w.there.token w.there.left) (sym w.is.profile)
              (subst (λ t. IsReadAt c.text.profile t to w.there.token w.there.left) (sym w.is.text) (read_on c.text.profile c.text.bytes.now c.at to w.there.token w.there.left here w.is.read));
          turns = ap open_turns (sym w.is.blocks);
          calls = subst (λ p. HaveCalled p xs w.there.callers []) (sym w.is.profile) (subst (λ cs. HaveCalled c.text.profile xs cs []) (sym w.is.callers) called);
        };
      })

  -- and before a step that calls
  pub visited_call : (h : Host) (q at to : ℕ) → k ≡ h.steps → RunGoesOn o h (at_register_call c q callers) → IsReadAt c.text.profile c.text.bytes.now at (Some (call_token q)) (cursor c).left → IsTokenPlace c.text.bytes.now at to → IsVisit o.state o.text k depth to
  unfolding HaveCalled
  visited_call h q at to same g read place =
      let w = call_told_here o h c q at to k callers same g read place in
      visited_so to (record {
        there = w.there;
        stands = w.stands;
        told = record {
          profile = w.told.profile;
          text = w.told.text;
          here = w.told.here;
          read = w.told.read;
          turns = w.told.turns;
          calls = subst (λ p. HaveCalled p xs w.there.callers []) w.told.profile (subst (λ cs. HaveCalled c.text.profile xs cs []) (sym w.told.calls) called);
        };
      })

-- What is sought in more steps of a run: none of them is wanted, or the first of them that may be is.
module _ (s : Wanted) (old new calls at to : ℕ) (text : List ℕ) (none : NoneIsWanted s old) (stood : StoodThrough s old new calls text at) (place : IsTokenPlace text at to) where
  pub none_of_more : (done : ℕ) → s.wanted calls to ≡ false → done ≤ new → NoneIsWanted s done
  none_of_more done is within k from less =
      up_to k old (ltb k old) refl (λ low. none k from low) (λ high. record { calls = calls; at = to; stands = stood k to high (omega (arith, less, within)) place; is = is })

  pub first_of_more : s.wanted calls to ≡ true → (n : ℕ) → n ≡ max old s.from → n < new → IsFirstWanted s n
  first_of_more is n first less = record {
    after = omega (arith, first);
    here = record { calls = calls; at = to; stands = stood n to (omega (arith, first)) less place; is = is };
    none = λ k from low. up_to k old (ltb k old) refl (λ before. none k from before) (λ high. absurd (omega (arith, first, from, low, high)));
  }

-- No step more may be.
pub none_before : (s : Wanted) (old new done : ℕ) → NoneIsWanted s old → new ≤ max old s.from → done ≤ new → NoneIsWanted s done
none_before s old new done none late within k from less =
    up_to k old (ltb k old) refl (λ low. none k from low) (λ high. absurd (omega (arith, late, within, from, less, high)))

-- What was found so far stays found; and where nothing was, either the place of more steps is not wanted, or the
-- first of them that may be is.
pub still_found : (s : Wanted) (old new done : ℕ) (found : Option ℕ) → (is_some found ≡ true) ⊎ (new ≤ max old s.from) → FindsWanted s old found → done ≤ new → FindsWanted s done found
still_found s old new done (Some n) why h within = h
still_found s old new done None (inl is) h within = absurd (let same : false ≡ true = is in cc)
still_found s old new done None (inr late) h within = none_before s old new done h late within

module _ (s : Wanted) (old new calls at to : ℕ) (text : List ℕ) where
  pub still_none : (found : Option ℕ) → is_some found ≡ false → FindsWanted s old found → StoodThrough s old new calls text at → IsTokenPlace text at to → s.wanted calls to ≡ false → (done : ℕ) → done ≤ new → FindsWanted s done found
  still_none (Some n) lacks h stood place is done within = absurd (let same : true ≡ false = lacks in cc)
  still_none None lacks h stood place is done within = none_of_more s old new calls at to text h stood place done is within

  pub now_found : (found : Option ℕ) → is_some found ≡ false → FindsWanted s old found → StoodThrough s old new calls text at → IsTokenPlace text at to → s.wanted calls to ≡ true → (n : ℕ) → n ≡ max old s.from → n < new → IsFirstWanted s n
  now_found (Some n) lacks h stood place is m first less = absurd (let same : true ≡ false = lacks in cc)
  now_found None lacks h stood place is m first less = first_of_more s old new calls at to text h stood place is m first less
