-- Lemmas on histories and on lists of requests.
use Rattle.std.proofs.Common.{◌≡◌, ℕ, zero, suc, ◌≤◌, List, [], ◌∷◌, ◌++◌, length, take, refl, sym, ap, ◌∙◌, arith, subst, append-nil, append_assoc, length-append, length-take}
use Rattle.std.proofs.KnownBytes.{Appends-trans, Appends-nil}
use Rattle.teco_store.specs.State.{State}
use Rattle.teco_exec.specs.StringMeaning.{string_meaning}
use Rattle.teco_io.specs.Terminal.{Screen, Shows, count_after}
use Rattle.teco_session.specs.History.{History, NotedString, state_after, present, AreMeant, IsHistory, appended}
use Rattle.teco_session.specs.Step.{Step, Reply, is_terminal_failure}
use Rattle.teco_session.specs.Play.{Play, ShowsAll, typed_by, answers_of, failures_after}
use Rattle.teco_session.specs.declared.request.Request.{Request}
use Rattle.teco_session.specs.declared.request.Answer.{Answer}

-- a note put where it is meant
AreMeant-appended : (s : State) (notes : List NotedString) (i : ℕ) (note : NotedString) → AreMeant s notes → i ≤ length notes
    → note.state ≡ (string_meaning (state_after s notes i) note.text note.steps).state → AreMeant s (take i notes ++ note ∷ [])
AreMeant-appended s notes zero note m h e = (e, tt)
AreMeant-appended s [] (suc i) note m h e = absurd (omega arith)
AreMeant-appended s (n ∷ notes) (suc i) note m h e = (m.0, AreMeant-appended n.state notes i note m.1 (omega arith) e)

-- a history goes on by what a string left
pub IsHistory-appended : (h : History) (note : NotedString) → IsHistory h → note.state ≡ (string_meaning (present h) note.text note.steps).state → IsHistory (appended h note)
IsHistory-appended h note ok e = record {
  begins = ok.begins;
  states = AreMeant-appended h.first h.notes h.cursor note ok.states ok.within e;
  within = simp (length-append, length-take) (let w = ok.within in omega arith);
}

-- one request more
pub Play-more : (limit : ℕ) (old mid new : History) (requests : List Request) (request : Request) (replies : List Reply) (reply : Reply)
    → Play limit old requests replies mid → Step limit mid request reply new → Play limit old (requests ++ request ∷ []) (replies ++ reply ∷ []) new
Play-more limit old mid new [] request [] reply p s = (new, subst (λ h. Step limit h request reply new) p s, refl)
Play-more limit old mid new [] request (r ∷ rs) reply p s = absurd p
Play-more limit old mid new (q ∷ qs) request [] reply p s = absurd p
Play-more limit old mid new (q ∷ qs) request (r ∷ rs) reply p s = (p.0, p.1, Play-more limit p.0 mid new qs request rs reply p.2 s)

pub answers_of-more : (replies : List Reply) (reply : Reply) → answers_of (replies ++ reply ∷ []) ≡ answers_of replies ++ reply.answer ∷ []
answers_of-more [] reply = refl
answers_of-more (r ∷ rs) reply = ap (λ l. r.answer ∷ l) (answers_of-more rs reply)

typed_by-more : (replies : List Reply) (reply : Reply) → typed_by (replies ++ reply ∷ []) ≡ typed_by replies ++ reply.typed
typed_by-more [] reply = append-nil reply.typed
typed_by-more (r ∷ rs) reply = ap (λ l. r.typed ++ l) (typed_by-more rs reply) ∙ sym (append_assoc r.typed (typed_by rs) reply.typed)

failures_after-more : (answers : List Answer) (answer : Answer) (n : ℕ) → failures_after (answers ++ answer ∷ []) n ≡ count_after (is_terminal_failure answer) (failures_after answers n)
failures_after-more [] answer n = refl
failures_after-more (a ∷ more) answer n = failures_after-more more answer (count_after (is_terminal_failure a) n)

pub ShowsAll-nil : (t : Screen) → ShowsAll t t []
ShowsAll-nil t = record { more = Appends-nil t.shown; count = refl }

pub ShowsAll-more : {a b c : Screen} (replies : List Reply) (reply : Reply)
    → ShowsAll a b replies → Shows b c reply.typed (is_terminal_failure reply.answer) → ShowsAll a c (replies ++ reply ∷ [])
ShowsAll-more {a} replies reply p q = record {
  more = rw (typed_by-more replies reply) (Appends-trans _ _ _ _ _ p.more q.more);
  count = q.count ∙ ap (count_after (is_terminal_failure reply.answer)) p.count
      ∙ sym (ap (λ l. failures_after l a.failures) (answers_of-more replies reply) ∙ failures_after-more (answers_of replies) reply.answer a.failures);
}
