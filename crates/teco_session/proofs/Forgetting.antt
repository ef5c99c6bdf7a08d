-- Sessions: the undone strings are dropped.
use Rattle.std.proofs.Common.{◌≡◌, ℕ, Option, List, [], length, take, reverse, refl, sym, ◌∙◌, ap, subst, arith}
use Rattle.std.proofs.lemmas.List.{length-reverse, length-take-le, drop_all, take_all}
use Rattle.teco_session.specs.History.{History, NotedString, IsHistory, without_undone}
use Rattle.teco_session.specs.Strings.{KeptString}
use Rattle.teco_session.specs.Kept.{KeptSession, done_strings, undone_strings, undone_notes, done_notes, forgotten, history_of, LeadBack, LeadForth, IsSession}
use Rattle.teco_session.proofs.Depths.{parts}
use Rattle.teco_session.proofs.Running.{notes_cut}
use Rattle.teco_session.proofs.Sessions.{session_with}
use Rattle.teco_session.proofs.Turning.{history_is}

-- a session without its undone strings
pub record IsForgotten (s t : KeptSession) : Type 0 where
  pub holds : IsSession t
  pub value : t ≡ forgotten s
  pub history : history_of t ≡ without_undone (history_of s)

same_notes : (h : History) (notes : List NotedString) → notes ≡ take h.cursor h.notes → (let t : History = record h { notes = notes } in t) ≡ without_undone h
same_notes h notes e = rw e refl

IsHistory-without_undone : (h : History) → IsHistory h → IsHistory (without_undone h)
IsHistory-without_undone h ok = record {
  begins = ok.begins;
  states = (parts h.first h.notes h.cursor ok.states).first;
  within = let n = length-take-le h.cursor h.notes ok.within in omega arith;
}

done_only : (s : KeptSession) → IsSession s → IsForgotten s (forgotten s)
done_only s ok =
    let c = s.cursor in
    let t : KeptSession = forgotten s in
    let st = s.editor.stored in
    let b = s.editor.body in
    let n : length (take c s.strings) ≡ c = length-take-le c s.strings ok.within in
    let before : done_strings t ≡ done_strings s = ap reverse (take_all c (take c s.strings) (omega arith)) in
    let behind : undone_strings t ≡ [] = drop_all c (take c s.strings) (omega arith) in
    let nx : length (done_strings s) ≡ c = length-reverse (take c s.strings) ∙ n in
    let notes : done_notes st (done_strings s) b [] ≡ take c (history_of s).notes = sym (notes_cut st (done_strings s) b (undone_notes st (undone_strings s) b) c nx) in
    let same : history_of t ≡ without_undone (history_of s) = history_is t (done_strings s) [] before behind ∙ same_notes (history_of s) _ notes in
    record {
      holds = record {
        within = omega arith;
        sound = ok.sound;
        back = subst (λ (zs : List KeptString). LeadBack s.editor.room st zs b) (sym before) ok.back;
        forth = subst (λ (zs : List KeptString). LeadForth s.editor.room st zs b) (sym behind) tt;
        history = subst IsHistory (sym same) (IsHistory-without_undone (history_of s) ok.history);
      };
      value = refl;
      history = same;
    }

same_strings : (s : KeptSession) (xs : List KeptString) (depth : Option ℕ) → xs ≡ take s.cursor s.strings → depth ≡ s.depth → session_with s.editor xs s.cursor depth ≡ forgotten s
same_strings s xs depth e f = rw (e, f) refl

pub session_forgotten : (s : KeptSession) (xs : List KeptString) (depth : Option ℕ) → IsSession s → xs ≡ take s.cursor s.strings → depth ≡ s.depth
    → IsForgotten s (session_with s.editor xs s.cursor depth)
session_forgotten s xs depth ok strings same =
    subst (IsForgotten s) (sym (same_strings s xs depth strings same)) (done_only s ok)
