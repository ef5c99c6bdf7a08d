-- Places that are told: fillers before a token, turns of blocks, and calls.
use Rattle.std.proofs.Common.{◌≡◌, ℕ, suc, ◌+◌, ◌++◌, Bool, true, false, List, [], ◌∷◌, ◌≤◌, drop, length, map, Option, Some, None, IfOk, IfSome, IsSomeAnd, Result, Ok, Err, ◌↔◌, arith, refl, sym, ap, subst, ◌∙◌, if◌then◌else◌}
use Rattle.std.proofs.lemmas.List.{drop-drop, length-drop}
use Rattle.teco_core.specs.declared.profile.Profile.{Profile}
use Rattle.teco_core.specs.Ascii.{is_filler}
use Rattle.teco_scan.specs.Scan.{TokenMeaning, scan, scan_here, after_fillers}
use Rattle.teco_scan.specs.Breaks.{IsTokenPlace, first_break}
use Rattle.teco_store.specs.State.{State}
use Rattle.teco_exec.specs.CursorMoves.{Frame}
use Rattle.teco_exec.specs.Machine.{Caller}
use Rattle.teco_exec.specs.Places.{CallToken, HaveCalled, IsCallOf, IsPlaceAfter, IsReadAt, Told, call_token, open_turns, stands_after, told_here, with_call}
use Rattle.teco_core.specs.Arguments.{Arguments}
use Rattle.teco_core.specs.declared.code.Code.{Code}
use Rattle.std.specs.declared.alloc.AllocError.{AllocError}
use Rattle.teco_exec.specs.Running.{caller, Host, Origin, Reaches, RunGoesOn, StandsSomewhere, StandsWhereTold, Tells, at_register_call, code_left, ended_by, reached_by_exit}
use Rattle.teco_exec.specs.Telling.{IsLastPlace, KnowsLast, call_told, told_of}
use Rattle.teco_exec.specs.declared.place.Call.{Call}
use Rattle.teco_exec.specs.declared.place.Place.{Place}
use Rattle.teco_exec.specs.Watching.{KeepsPlace, Knows}
use Rattle.teco_exec.specs.View.{cursor}
use Rattle.teco_exec.specs.declared.cursor.Cursor.{Cursor}
use Rattle.teco_exec.specs.declared.flow.Exit.{Exit}
use Rattle.teco_exec.specs.declared.flow.Exit.TheVariants as ending
use Rattle.teco_exec.specs.declared.watch.Watched.{Watched}
use Rattle.teco_exec.proofs.Profiles.{stands_profile}

-- Fillers are passed once.
twice_by : (b : ℕ) (bs : List ℕ) (x : Bool) → is_filler b ≡ x → after_fillers (after_fillers bs) ≡ after_fillers bs → after_fillers (if x then after_fillers bs else b ∷ bs) ≡ (if x then after_fillers bs else b ∷ bs)
unfolding after_fillers
twice_by b bs true e h = h
twice_by b bs false e h = ap (λ x. if x then after_fillers bs else b ∷ bs) e

pub fillers_twice : (bs : List ℕ) → after_fillers (after_fillers bs) ≡ after_fillers bs
unfolding after_fillers
fillers_twice [] = refl
fillers_twice (b ∷ bs) = twice_by b bs (is_filler b) refl (fillers_twice bs)

pub scan_fillers : (p : Profile) (bs : List ℕ) → scan p (after_fillers bs) ≡ scan p bs
unfolding scan
scan_fillers p bs = ap (scan_here p) (fillers_twice bs)

dropped_by : (b : ℕ) (bs : List ℕ) (x : Bool) → ((n : ℕ) × (drop n bs ≡ after_fillers bs) × (n ≤ length bs)) → (n : ℕ) × (drop n (b ∷ bs) ≡ (if x then after_fillers bs else b ∷ bs)) × (n ≤ length (b ∷ bs))
dropped_by b bs true h = (suc h.0, h.1, omega (arith, h.2))
dropped_by b bs false h = (0, refl, omega arith)

fillers_dropped : (bs : List ℕ) → (n : ℕ) × (drop n bs ≡ after_fillers bs) × (n ≤ length bs)
unfolding after_fillers
fillers_dropped [] = (0, refl, omega arith)
fillers_dropped (b ∷ bs) = dropped_by b bs (is_filler b) (fillers_dropped bs)

-- A token has a place.
pub has_place : (text : List ℕ) (at : ℕ) → at ≤ length text → (to : ℕ) × IsTokenPlace text at to
has_place text at within =
    let h = fillers_dropped (drop at text) in
    (at + h.0, record { rest = sym (drop-drop h.0 at text) ∙ h.1; within = omega (arith, h.2, within, length-drop at text) })

-- It is at that place itself.
pub lands : (text : List ℕ) (at to : ℕ) → IsTokenPlace text at to → IsTokenPlace text to to
lands text at to e = record { rest = e.rest ∙ sym (ap after_fillers e.rest ∙ fillers_twice (drop at text)); within = e.within }

-- What is read at a place is read after the fillers there.
pub read_on : (p : Profile) (text : List ℕ) (at to : ℕ) (token : Option TokenMeaning) (left : List ℕ) → IsTokenPlace text at to → IsReadAt p text at token left → IsReadAt p text to token left
read_on p text at to (Some t) left e h = (h.0, h.1, ap (scan p) e.rest ∙ scan_fillers p (drop at text) ∙ h.2, h.3)
read_on p text at to None left e h = ap after_fillers e.rest ∙ fillers_twice (drop at text) ∙ h

-- where the run last stood at a cursor
pub stood_told : (o : Origin) (k : ℕ) (c new : Cursor) (callers : List Caller) (to : ℕ) → StandsSomewhere o k c callers → new.text ≡ c.text → (cursor new).blocks ≡ (cursor c).blocks → IsTokenPlace new.text.bytes.now c.at to
    → StandsWhereTold o callers (told_here new.text.profile k new.text.bytes.now to (cursor new).blocks)
unfolding HaveCalled
stood_told o k c new callers to w text blocks place =
    let here : IsTokenPlace c.text.bytes.now c.at to = subst (λ t. IsTokenPlace t.bytes.now c.at to) text place in
    record {
      there = w.there;
      stands = w.stands;
      told = record {
        profile = ap (λ t. t.profile) text ∙ sym w.is.profile;
        text = ap (λ t. t.bytes.now) text ∙ sym w.is.text;
        here = subst (λ t. IsTokenPlace t to to) (sym w.is.text) (lands c.text.bytes.now c.at to here);
        read = subst (λ p. IsReadAt p w.there.text to w.there.token w.there.left) (sym w.is.profile)
            (subst (λ t. IsReadAt c.text.profile t to w.there.token w.there.left) (sym w.is.text) (read_on c.text.profile c.text.bytes.now c.at to w.there.token w.there.left here w.is.read));
        turns = ap open_turns (blocks ∙ sym w.is.blocks);
        calls = w.is.callers;
      };
    }

-- A run that goes on with a call keeps its profile.
pub call_profile : (o : Origin) (h : Host) (c : Cursor) (q : ℕ) (callers : List Caller) → RunGoesOn o h (at_register_call c q callers) → c.text.profile ≡ o.state.profile
call_profile o h c q callers g = stands_profile o.state o.text h.steps _ (ap (λ x. x.0) g.stands)

-- before a step that calls
pub call_told_here : (o : Origin) (h : Host) (c : Cursor) (q at to k : ℕ) (callers : List Caller) → k ≡ h.steps → RunGoesOn o h (at_register_call c q callers) → IsReadAt c.text.profile c.text.bytes.now at (Some (call_token q)) (cursor c).left → IsTokenPlace c.text.bytes.now at to
    → StandsWhereTold o callers (told_here c.text.profile k c.text.bytes.now to (cursor c).blocks)
unfolding HaveCalled
call_told_here o h c q at to k callers same g read place = record {
  there = record { profile = c.text.profile; text = c.text.bytes.now; left = (cursor c).left; blocks = (cursor c).blocks; callers = callers; token = Some (call_token q) };
  stands = ap (stands_after o.state o.text) same ∙ ap (λ x. x.0) g.stands;
  told = record { profile = refl; text = refl; here = lands c.text.bytes.now at to place; read = read_on c.text.profile c.text.bytes.now at to (Some (call_token q)) (cursor c).left place read; turns = refl; calls = refl };
}

-- One call more, around the others.
called_on : (p : Profile) (xs : List CallToken) (cs : List Caller) (b : Caller) (others : List Caller) (x : CallToken) → HaveCalled p xs cs (b ∷ others) → IsCallOf p b x → HaveCalled p (xs ++ x ∷ []) cs others
unfolding HaveCalled
called_on p [] cs b others x h is = subst (λ (callers : List Caller). HaveCalled p (x ∷ []) callers others) (sym h) (is, refl)
called_on p (y ∷ ys) [] b others x h is = absurd h
called_on p (y ∷ ys) (c ∷ cs) b others x h is = (h.0, called_on p ys cs b others x h.1 is)

pub called_told : (o : Origin) (c : Cursor) (q at to : ℕ) (callers : List Caller) (p : Told) → c.text.profile ≡ o.state.profile → StandsWhereTold o (caller c ∷ callers) p → IsReadAt c.text.profile c.text.bytes.now at (Some (call_token q)) (cursor c).left → IsTokenPlace c.text.bytes.now at to
    → StandsWhereTold o callers (with_call p q to (cursor c).blocks)
called_told o c q at to callers p keeps w read place = record {
  there = w.there;
  stands = w.stands;
  told = record {
    profile = w.told.profile;
    text = w.told.text;
    here = w.told.here;
    read = w.told.read;
    turns = w.told.turns;
    calls = called_on w.there.profile p.calls w.there.callers (caller c) callers (record { register = q; at = to; turns = open_turns (cursor c).blocks }) w.told.calls
        (record {
          here = lands c.text.bytes.now at to place;
          read = subst (λ p. IsReadAt p c.text.bytes.now to (Some (call_token q)) (cursor c).left) (keeps ∙ sym (stands_profile o.state o.text p.steps w.there w.stands))
              (read_on c.text.profile c.text.bytes.now at to (Some (call_token q)) (cursor c).left place read);
          turns = refl;
        });
  };
}

-- The last place of a whole run that stopped, and of one whose last step failed.
pub stopped_place : (o : Origin) (done : ℕ) (p : Told) → StandsWhereTold o [] p → p.steps ≡ done → IsPlaceAfter o.state o.text done p
stopped_place o done p w same = record { there = w.there; stands = w.stands; told = w.told; within = omega arith; last = λ j more le. absurd (omega arith) }

failed_place : (o : Origin) (done : ℕ) (p : Told) → StandsWhereTold o [] p → p.steps + 1 ≡ done → stands_after o.state o.text done ≡ None → IsPlaceAfter o.state o.text done p
failed_place o done p w one nowhere = record {
  there = w.there;
  stands = w.stands;
  told = w.told;
  within = omega arith;
  last = λ j more le. (let same : done ≡ j = omega arith in subst (λ i. stands_after o.state o.text i ≡ None) same nowhere);
}

exit_tells : (profile : Profile) (knows : Option Told → Type 0) (P : Told → Type 0) (limit : ℕ) (o : Origin) (before after : Host) (a : Arguments) (x : Exit) → Reaches limit o before after (reached_by_exit profile a [] x) → ((p : Told) → P p → StandsWhereTold o [] p) → Tells knows x after.steps P
    → KnowsLast knows o.state o.text (ended_by (code_left x) after.steps)
exit_tells profile knows P limit o before after a ending.Return r at t = t
exit_tells profile knows P limit o before after a ending.Over r at t = t
exit_tells profile knows P limit o before after a (ending.Fail code) r at t = (t.0, t.1, failed_place o after.steps t.0 (at t.0 t.3) t.2 r.nowhere)
exit_tells profile knows P limit o before after a (ending.Stop code) r at t = (t.0, t.1, stopped_place o after.steps t.0 (at t.0 t.3) t.2)

pub tells_last : (profile : Profile) (knows : Option Told → Type 0) (P : Told → Type 0) (limit : ℕ) (o : Origin) (before after : Host) (a : Arguments) (x : Exit) (code : Option Code) → code ≡ code_left x → Reaches limit o before after (reached_by_exit profile a [] x)
    → ((p : Told) → P p → StandsWhereTold o [] p) → Tells knows x after.steps P → KnowsLast knows o.state o.text (ended_by code after.steps)
tells_last profile knows P limit o before after a x code is r at t = subst (λ (c : Option Code). KnowsLast knows o.state o.text (ended_by c after.steps)) (sym is) (exit_tells profile knows P limit o before after a x r at t)

-- A place that was kept is the one that was told.
abbrev pub Keeps : Result (Option Place) AllocError → Told → Type 0
Keeps r p = IfOk r (λ told. IsSomeAnd told (λ place. KeepsPlace place p))

last_kept : (s : State) (text : List ℕ) (done : ℕ) (place : Place) (p : Told) → KeepsPlace place p → IsPlaceAfter s text done p → IsLastPlace s text done place
last_kept s text done place p keeps h =
    let same : p.profile ≡ s.profile = h.told.profile ∙ stands_profile s text p.steps h.there h.stands in
    record {
      innermost = p.text;
      stood = subst (IsPlaceAfter s text done) (sym (ap (λ profile. told_of profile p.text place) (sym same) ∙ keeps.told)) h;
      fault = keeps.fault ∙ ap (λ profile. first_break profile p.text) same;
    }

kept_place : (r : Result (Option Place) AllocError) (p : Told) (s : State) (text : List ℕ) (done : ℕ) → Keeps r p → IsPlaceAfter s text done p → IfOk r (λ told. IfSome told (λ place. IsLastPlace s text done place))
kept_place (Ok None) p s text done keeps h = tt
kept_place (Ok (Some place)) p s text done keeps h = last_kept s text done place p keeps h
kept_place (Err e) p s text done keeps h = tt

kept_some : (r : Result (Option Place) AllocError) (p : Told) → Keeps r p → r ≡ Ok None → ⊥
kept_some (Ok None) p keeps e = keeps
kept_some (Ok (Some place)) p keeps e = let same : Some place ≡ None = cc in cc
kept_some (Err e) p keeps is = absurd cc

module _ (w : Watched) (r : Result (Option Place) AllocError) (none : Knows w None → r ≡ Ok None) (some : (p : Told) → Knows w (Some p) → Keeps r p) where
  pub place_told : (s : State) (text : List ℕ) (done : ℕ) (code : Option Code) → KnowsLast (Knows w) s text (ended_by code done) → IfOk r (λ told. IfSome told (λ place. IsLastPlace s text done place))
  place_told s text done None knows = subst (λ (x : Result (Option Place) AllocError). IfOk x (λ told. IfSome told (λ place. IsLastPlace s text done place))) (sym (none knows)) tt
  place_told s text done (Some code) knows = kept_place r knows.0 s text done (some knows.0 knows.1) knows.2

  pub told_exactly : (s : State) (text : List ℕ) (done : ℕ) (code : Option Code) → KnowsLast (Knows w) s text (ended_by code done) → (r ≡ Ok None) ↔ (code ≡ None)
  told_exactly s text done None knows = (λ e. refl, λ e. none knows)
  told_exactly s text done (Some code) knows = (λ e. absurd (kept_some r knows.0 (some knows.0 knows.1) e), λ e. absurd cc)

-- what the watch keeps
pub kept_here : (p : Profile) (steps : ℕ) (text : List ℕ) (to : ℕ) (turns : List (Option ℕ)) (blocks : List Frame) (calls : List Call) → turns ≡ open_turns blocks → calls ≡ []
    → (let kept : Told = record { profile = p; steps = steps; text = text; at = to; turns = turns; calls = map call_told calls } in kept ≡ told_here p steps text to blocks)
kept_here p steps text to turns blocks calls e none =
    ap (λ ts. (let kept : Told = record { profile = p; steps = steps; text = text; at = to; turns = ts; calls = map call_told calls } in kept)) e
    ∙ ap (λ cs. (let kept : Told = record { profile = p; steps = steps; text = text; at = to; turns = open_turns blocks; calls = map call_told cs } in kept)) none

more_calls : (xs : List Call) (x : Call) → map call_told (xs ++ x ∷ []) ≡ map call_told xs ++ call_told x ∷ []
more_calls [] x = refl
more_calls (y ∷ ys) x = ap (λ zs. call_told y ∷ zs) (more_calls ys x)

pub kept_call : (old : Place) (ys : List Call) (x : Call) (blocks : List Frame) (p : Told) → told_of p.profile p.text old ≡ p → ys ≡ old.calls.items ++ x ∷ [] → x.turns.items ≡ open_turns blocks
    → (let kept : Told = record { profile = p.profile; steps = old.steps; text = p.text; at = old.at; turns = old.turns.items; calls = map call_told ys } in kept ≡ with_call p x.register x.at blocks)
kept_call old ys x blocks p is more turns =
    ap (λ cs. (let kept : Told = record { profile = p.profile; steps = old.steps; text = p.text; at = old.at; turns = old.turns.items; calls = map call_told cs } in kept)) more
    ∙ ap (λ cs. (let kept : Told = record { profile = p.profile; steps = old.steps; text = p.text; at = old.at; turns = old.turns.items; calls = cs } in kept)) (more_calls old.calls.items x)
    ∙ ap (λ ts. (let kept : Told = record { profile = p.profile; steps = old.steps; text = p.text; at = old.at; turns = old.turns.items; calls = map call_told old.calls.items ++ record { register = x.register; at = x.at; turns = ts } ∷ [] } in kept)) turns
    ∙ ap (λ q. with_call q x.register x.at blocks) is
