-- Sessions after each request, as what their parts have become.
use Rattle.std.proofs.Common.{◌≡◌, ℕ, ◌+◌, ◌-◌, ◌<◌, ◌≤◌, true, Option, None, Some, List, [], ◌∷◌, ◌++◌, length, take, min, get_or, set, refl, sym, ◌∙◌, ap, subst, arith, rules, length-append}
use Rattle.std.proofs.Math.Nat.{min-le_right}
use Rattle.std.proofs.lemmas.Bool.{true≢false, eqb-true}
use Rattle.std.proofs.lemmas.Int.{ints}
use Rattle.std.proofs.lemmas.Option.{none-some}
use Rattle.std.proofs.lemmas.List.Elements.{All-replicate}
use Rattle.teco_core.specs.Number.{IsNumber}
use Rattle.teco_core.specs.Register.{Content, blank}
use Rattle.std.proofs.lemmas.List.{get_or_default, take_more_set, length-take-le, length-drop}
use Rattle.teco_core.specs.declared.limits.TheConstants.{FILE_LIMIT, TEXT_LIMIT}
use Rattle.teco_store.specs.State.{Full, IsSound, State, state_of, with_body, new_paged_full}
use Rattle.teco_undo.specs.Entry.{body_back, body_forth, since}
use Rattle.teco_undo.specs.Follows.{LeadsBack}
use Rattle.teco_undo.specs.RecordLaws.{BackThenForth, ForthThenBack, ComesSoExtended, ComesSoFarCut}
use Rattle.teco_exec.specs.StringMeaning.{string_meaning}
use Rattle.teco_session.specs.Strings.{keeps_none, beyond}
use Rattle.teco_session.specs.History.{History, NotedString, HasBegun, IsBeginning, note_at, present, without_first, appended, noted, undone, redone, with_steps, rewound}
use Rattle.teco_session.specs.Strings.{KeptString, string_back, string_cut, string_forth, newest}
use Rattle.teco_session.specs.Kept.{KeptSession, string_at, cut_to, session_over, noted_as, IsSession, HasRun, history_of, reverted, applied}
use Rattle.teco_session.proofs.Turning.{Turned, length-notes, session_back, session_forth}
use Rattle.teco_session.proofs.Headings.{has_steps}
use Rattle.teco_session.proofs.Rewinding.{session_cut}
use Rattle.teco_session.proofs.Running.{Appended, session_appended}
use Rattle.teco_session.proofs.Depths.{has_begun, Dropped, session_dropped, without_oldest}

abbrev pub session_with : (f : Full) (xs : List KeptString) (c : ℕ) (depth : Option ℕ) → KeptSession
session_with f xs c depth = record { editor = f; strings = xs; cursor = c; depth = depth }

same_session : (f g : Full) (xs ys : List KeptString) (c k : ℕ) (d e : Option ℕ) → f ≡ g → xs ≡ ys → c ≡ k → d ≡ e → session_with f xs c d ≡ session_with g ys k e
same_session f g xs ys c k d e p q r s = rw (p, q, r, s) refl

-- The beginning of a session over an editor.
begun : (depth : Option ℕ) (first : State) → IsBeginning first → HasBegun depth first
begun None first is = is
begun (Some depth) first is = (first, is, [], tt, refl)

pub session_from : (depth : Option ℕ) (f g : Full) (xs : List KeptString) (d : Option ℕ) → IsSound f.room (length f.stored) f.body
    → IsBeginning (state_of f) → g ≡ f → xs ≡ [] → d ≡ depth → IsSession (session_with g xs 0 d)
session_from depth f g xs d sound first at none same =
    let new : session_with g xs 0 d ≡ session_over depth f = same_session _ _ _ _ _ _ _ _ at none refl same in
    subst IsSession (sym new) (record {
      within = search rules;
      sound = sound;
      back = tt;
      forth = tt;
      history = record { begins = begun depth (state_of f) first; states = tt; within = search rules };
    })

-- The same with an input.

pub session_begun : (lines : ℕ) (depth : Option ℕ) (input : List ℕ) (g : Full) (xs : List KeptString) (d : Option ℕ) → length input ≤ FILE_LIMIT
    → g ≡ new_paged_full lines input → xs ≡ [] → d ≡ depth → IsSession (session_with g xs 0 d)
session_begun lines depth input g xs d small at none same =
    session_from depth (new_paged_full lines input) g xs d (record {
      pointer = search rules;
      text = search rules;
      room = search rules;
      all = search rules;
      registers = All-replicate (λ (c : Content). length c.text ≤ TEXT_LIMIT) 36 blank (omega arith);
      numbers = All-replicate (λ (c : Content). IsNumber c.number) 36 blank (omega (arith, ints), omega (arith, ints));
      few = search rules;
      pushed = All-replicate (λ (c : Content). length c.text ≤ TEXT_LIMIT) 0 blank (omega arith);
      pushed_numbers = All-replicate (λ (c : Content). IsNumber c.number) 0 blank (omega (arith, ints), omega (arith, ints));
      place = search rules;
      input = small;
      stored = search rules;
      output = search rules;
      last_search = λ v e. absurd (none-some v e);
    }) refl at none same

-- the string at a place is what is read there, whatever would be read elsewhere
pub at_self : (s : KeptSession) (i : ℕ) → i < length s.strings → string_at s i ≡ get_or s.strings i (string_at s i)
at_self s i lt = get_or_default s.strings i _ _ lt

pub record IsReverted (s t : KeptSession) : Type 0 where
  pub holds : IsSession t
  pub value : t ≡ reverted s
  pub history : history_of t ≡ undone (history_of s)

pub session_reverted : BackThenForth → (s : KeptSession) (g : Full) (xs : List KeptString) (depth : Option ℕ) → 0 < s.cursor → IsSession s
    → (let x = string_at s (s.cursor - 1) in (g ≡ with_body s.editor (body_back x.changes s.editor.body)) × (xs ≡ set s.strings (s.cursor - 1) (string_back x s.editor.body)))
    → depth ≡ s.depth → IsReverted s (session_with g xs (s.cursor - 1) depth)
session_reverted law s g xs depth pos ok parts same =
    let within = ok.within in
    let new : session_with g xs (s.cursor - 1) depth ≡ reverted s = same_session _ _ _ _ _ _ _ _ parts.0 parts.1 refl same in
    let t : Turned s (reverted s) (s.cursor - 1) = session_back law s (string_at s (s.cursor - 1)) (s.cursor - 1) (omega arith) ok (at_self s (s.cursor - 1) (omega arith)) in
    record { holds = subst IsSession (sym new) t.holds; value = new; history = ap history_of new ∙ t.history }

pub record IsApplied (s t : KeptSession) : Type 0 where
  pub holds : IsSession t
  pub value : t ≡ applied s
  pub history : history_of t ≡ redone (history_of s)

pub session_applied : ForthThenBack → (s : KeptSession) (g : Full) (xs : List KeptString) (depth : Option ℕ) → s.cursor < length s.strings → IsSession s
    → (let x = string_at s s.cursor in (g ≡ with_body s.editor (body_forth x.changes s.editor.body)) × (xs ≡ set s.strings s.cursor (string_forth x s.editor.body)))
    → depth ≡ s.depth → IsApplied s (session_with g xs (s.cursor + 1) depth)
session_applied law s g xs depth lt ok parts same =
    let new : session_with g xs (s.cursor + 1) depth ≡ applied s = same_session _ _ _ _ _ _ _ _ parts.0 parts.1 refl same in
    let t : Turned s (applied s) (s.cursor + 1) = session_forth law s (string_at s s.cursor) lt ok (at_self s s.cursor lt) in
    record { holds = subst IsSession (sym new) t.holds; value = new; history = ap history_of new ∙ t.history }

-- a session after a string that has begun
pub record Ran (s t : KeptSession) (x : KeptString) : Type 0 where
  pub holds : IsSession t
  pub history : history_of t ≡ noted (history_of s) (noted_as x (state_of t.editor))

none_beyond : (depth : Option ℕ) (n : ℕ) → depth ≡ None → beyond depth n ≡ 0
none_beyond depth n e = ap (λ d. beyond d n) e

beyond-le : (depth : Option ℕ) (n : ℕ) → beyond depth n ≤ n
beyond-le None n = omega arith
beyond-le (Some depth) n = omega arith

pub session_noted : BackThenForth → ComesSoExtended → (s : KeptSession) (g : Full) (xs : List KeptString) (x : KeptString) (k : ℕ) (depth : Option ℕ) → IsSession s → LeadsBack s.editor g x.changes
    → HasRun g x → state_of g ≡ (string_meaning (state_of s.editor) x.text x.steps).state → xs ≡ newest s.depth (take s.cursor s.strings ++ x ∷ []) → k ≡ length xs → depth ≡ s.depth
    → Ran s (session_with g xs k depth) x
session_noted law more s g xs x k depth ok leads run again strings at same =
    let c = s.cursor in
    let all : List KeptString = take c s.strings ++ x ∷ [] in
    let size : length all ≡ c + 1 = length-append (take c s.strings) (x ∷ []) ∙ ap (λ j. j + 1) (length-take-le c s.strings ok.within) in
    let u : KeptSession = session_with g all (c + 1) s.depth in
    let one : Appended s u x = session_appended law more s u x ok leads run again refl refl refl in
    let n : ℕ = beyond s.depth (length all) in
    let le = beyond-le s.depth (length all) in
    let few : Dropped u (without_oldest n u) n = session_dropped u n (none_beyond s.depth (length all)) (omega arith) one.holds in
    let cursor : k ≡ (c + 1) - n = at ∙ ap length strings ∙ length-drop n all ∙ ap (λ j. j - n) size in
    let new : session_with g xs k depth ≡ without_oldest n u = same_session _ _ _ _ _ _ _ _ refl strings cursor same in
    let within = one.holds.within in
    let notes : length all ≡ length (appended (history_of s) (noted_as x (state_of g))).notes = sym (length-notes u within) ∙ ap (λ (h : History). length h.notes) one.history in
    record {
      holds = subst IsSession (sym new) few.holds;
      history = ap history_of new ∙ few.history ∙ ap (without_first n) one.history
          ∙ ap (λ j. without_first (beyond s.depth j) (appended (history_of s) (noted_as x (state_of g)))) notes;
    }

-- the last string that is done, cut
pub record IsRewoundTo (n : ℕ) (s t : KeptSession) : Type 0 where
  pub holds : IsSession t
  pub value : t ≡ cut_to n s
  pub history : history_of t ≡ rewound n (history_of s)

pub session_rewound : BackThenForth → ComesSoExtended → ComesSoFarCut → (n : ℕ) (s : KeptSession) (g : Full) (xs : List KeptString) (depth : Option ℕ) → 0 < s.cursor → IsSession s
    → (let x = string_at s (s.cursor - 1) in let k = min n x.steps in
    (g ≡ with_body s.editor (body_back (since k x.changes) s.editor.body)) × (xs ≡ take s.cursor (set s.strings (s.cursor - 1) (string_cut k x))))
    → depth ≡ s.depth → IsRewoundTo n s (session_with g xs s.cursor depth)
session_rewound back more law n s g xs depth pos ok parts same =
    let i = s.cursor - 1 in
    let x = string_at s i in
    let k = min n x.steps in
    let within = ok.within in
    let lt : i < length s.strings = omega arith in
    let ci : s.cursor ≡ i + 1 = omega arith in
    let kept : take s.cursor (set s.strings i (string_cut k x)) ≡ take i s.strings ++ string_cut k x ∷ [] =
    ap (λ j. take j (set s.strings i (string_cut k x))) ci ∙ take_more_set s.strings i (string_cut k x) lt in
    let new : session_with g xs s.cursor depth ≡ cut_to n s = same_session _ _ _ _ _ _ _ _ parts.0 (parts.1 ∙ kept) refl same in
    let here = at_self s i lt in
    let z = session_cut back more law s x i k ci ok here (let m = min-le_right n x.steps in omega arith) in
    let h = history_of s in
    let steps : x.steps ≡ (note_at h i).steps = sym (has_steps s i _ _ within lt) in
    record {
      holds = subst IsSession (sym new) z.holds;
      value = new;
      history = ap history_of new ∙ z.history ∙ ap (λ j. appended (undone h) (with_steps j (present (undone h)) (note_at h i))) (ap (min n) steps);
    }

-- a session that keeps no string, after one that has begun
pub record Went (s t : KeptSession) (note : NotedString) : Type 0 where
  pub holds : IsSession t
  pub history : history_of t ≡ noted (history_of s) note

abbrev bare : Full → KeptSession
bare f = session_with f [] 0 (Some 0)

bare_went : (f g : Full) (text : List ℕ) (k : ℕ) → IsSession (bare f) → IsSound g.room (length g.stored) g.body
    → state_of g ≡ (string_meaning (state_of f) text k).state → Went (bare f) (bare g) (record { text = text; steps = k; state = state_of g })
bare_went f g text k ok sound again =
    let note : NotedString = record { text = text; steps = k; state = state_of g } in
    let begins : HasBegun (Some 0) (state_of f) = ok.history.begins in
    record {
      holds = record {
        within = omega arith;
        sound = sound;
        back = tt;
        forth = tt;
        history = record { begins = has_begun (Some 0) (state_of f) (note ∷ []) 1 (λ e. absurd (none-some 0 (sym e))) (again, tt) begins; states = tt; within = omega arith };
      };
      history = refl;
    }

depth_none : (depth : Option ℕ) → keeps_none depth ≡ true → depth ≡ Some 0
depth_none None e = absurd (true≢false (sym e))
depth_none (Some depth) e = ap Some (eqb-true depth 0 e)

is_nil : (xs : List KeptString) → length xs ≤ 0 → xs ≡ []
is_nil [] h = refl
is_nil (x ∷ xs) h = absurd (omega arith)

pub session_went : (s : KeptSession) (g : Full) (text : List ℕ) (k : ℕ) → keeps_none s.depth ≡ true → length s.strings ≤ 0 → IsSession s
    → IsSound g.room (length g.stored) g.body → state_of g ≡ (string_meaning (state_of s.editor) text k).state
    → Went s (session_with g s.strings s.cursor s.depth) (record { text = text; steps = k; state = state_of g })
session_went s g text k none few ok sound again =
    let strings : s.strings ≡ [] = is_nil s.strings few in
    let depth : s.depth ≡ Some 0 = depth_none s.depth none in
    let within = ok.within in
    let cursor : s.cursor ≡ 0 = omega arith in
    let old : s ≡ bare s.editor = same_session _ _ _ _ _ _ _ _ refl strings cursor depth in
    let new : session_with g s.strings s.cursor s.depth ≡ bare g = same_session _ _ _ _ _ _ _ _ refl strings cursor depth in
    let note : NotedString = record { text = text; steps = k; state = state_of g } in
    let w = bare_went s.editor g text k (subst IsSession old ok) sound again in
    record { holds = subst IsSession (sym new) w.holds; history = ap history_of new ∙ w.history ∙ ap (λ (z : KeptSession). noted (history_of z) note) (sym old) }
