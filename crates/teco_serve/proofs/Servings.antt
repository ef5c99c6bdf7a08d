-- Lemmas on exchanges one after another, and on servings.
use Rattle.std.proofs.Common.{◌≡◌, ℕ, List, [], ◌∷◌, ◌++◌, map, Bool, true, false, Some, refl, sym, ap, ◌∙◌, subst, append-nil, append_assoc, true≢false, inr}
use Rattle.teco_session.specs.History.{History}
use Rattle.teco_serve.specs.Message.{star}
use Rattle.teco_serve.specs.Exchange.{Allowance, BreaksOff, Exchange, exchange_shown}
use Rattle.teco_scan.specs.Stream.{Asks, asks_of, requests, texts_of}
use Rattle.teco_serve.specs.Serving.{AreFirstOf, Exchanges, Exits, GoOn, Shown, all_shown, asked_in, exchanges_shown, is_read_fault, is_read_out}
use Rattle.teco_serve.specs.Held.{IsExchange, ExchangeEnds, HeldEnds, CutsOff}
use Rattle.teco_serve.specs.Cut.{AsksFirst, value_of}
use Rattle.teco_serve.specs.declared.alarm.Manner.{Manner}
use Rattle.teco_serve.specs.declared.splitter.Asked.{Asked}
use Rattle.teco_serve.specs.declared.served.Served.{Served}
use Rattle.teco_serve.specs.declared.served.Served.TheVariants.{Exit, EndOfCommands, ReadFault, ShowFault, NoMemory}
use Rattle.teco_serve.proofs.Showing.{BreaksOff-after, BreaksOff-first, Joins}

-- one exchange more
pub Exchanges-more : (allowed : Allowance) (old mid new : History) (exchanges : List Exchange) (exchange : Exchange) (asked : Asks) → Exchanges allowed old exchanges mid → IsExchange allowed asked mid new exchange → Exchanges allowed old (exchanges ++ exchange ∷ []) new
Exchanges-more allowed old mid new [] exchange asked p t = (t.before_is ∙ p, t.does, sym t.after_is)
Exchanges-more allowed old mid new (u ∷ us) exchange asked p t = (p.0, p.1, Exchanges-more allowed u.after mid new us exchange asked p.2 t)

pub Exchanges-append : (allowed : Allowance) (old mid new : History) (xs ys : List Exchange) → Exchanges allowed old xs mid → Exchanges allowed mid ys new → Exchanges allowed old (xs ++ ys) new
Exchanges-append allowed old mid new [] ys p q = subst (λ h. Exchanges allowed h ys new) p q
Exchanges-append allowed old mid new (x ∷ xs) ys p q = (p.0, p.1, Exchanges-append allowed x.after mid new xs ys p.2 q)

pub GoOn-append : (xs ys : List Exchange) → GoOn xs → GoOn ys → GoOn (xs ++ ys)
GoOn-append [] ys p q = q
GoOn-append (x ∷ xs) ys p q = (p.0, GoOn-append xs ys p.1 q)

pub exchanges_shown-append : (manner : Manner) (xs ys : List Exchange) → exchanges_shown manner (xs ++ ys) ≡ exchanges_shown manner xs ++ exchanges_shown manner ys
exchanges_shown-append manner [] ys = refl
exchanges_shown-append manner (x ∷ xs) ys = ap (λ l. exchange_shown manner x ++ l) (exchanges_shown-append manner xs ys) ∙ sym (append_assoc (exchange_shown manner x) (exchanges_shown manner xs) (exchanges_shown manner ys))

pub exchanges_shown-one : (manner : Manner) (xs : List Exchange) (y : Exchange) → exchanges_shown manner (xs ++ y ∷ []) ≡ exchanges_shown manner xs ++ exchange_shown manner y
exchanges_shown-one manner xs y = exchanges_shown-append manner xs (y ∷ []) ∙ ap (λ l. exchanges_shown manner xs ++ l) (append-nil (exchange_shown manner y))

pub asked_in-append : (xs ys : List Exchange) → asked_in (xs ++ ys) ≡ asked_in xs ++ asked_in ys
asked_in-append [] ys = refl
asked_in-append (x ∷ xs) ys = ap (λ l. x.asked ∷ l) (asked_in-append xs ys)

pub CutsOff-append : (bytes mid held : List ℕ) (xs ys : List Exchange) → CutsOff bytes xs mid → CutsOff mid ys held → CutsOff bytes (xs ++ ys) held
CutsOff-append bytes mid held xs ys p q = record {
  asks = λ more.
      p.asks more ∙ ap (λ l. asked_in xs ++ l) (q.asks more) ∙ sym (append_assoc (asked_in xs) (asked_in ys) (requests (held ++ more))) ∙ ap (λ l. l ++ requests (held ++ more)) (sym (asked_in-append xs ys));
}

-- a text is cut off
pub CutsOff-cut : (old held : List ℕ) (exchange : Exchange) (asked : Asked) → AsksFirst old (Some asked) held → exchange.asked ≡ value_of asked → CutsOff old (exchange ∷ []) held
CutsOff-cut old held exchange asked first e = record { asks = λ more. first more ∙ ap (λ x. x ∷ requests (held ++ more)) (sym e) }

-- a piece is fed
pub CutsOff-fed : (bytes held piece new : List ℕ) (exchanges : List Exchange) → CutsOff bytes exchanges held → new ≡ held ++ piece → CutsOff (bytes ++ piece) exchanges new
CutsOff-fed bytes held piece new exchanges p e = record {
  asks = λ more.
      ap requests (append_assoc bytes piece more) ∙ p.asks (piece ++ more) ∙ ap (λ l. asked_in exchanges ++ requests l) (sym (append_assoc held piece more)) ∙ ap (λ l. asked_in exchanges ++ requests (l ++ more)) (sym e);
}

pub CutsOff-none : (held : List ℕ) → held ≡ [] → CutsOff [] [] held
CutsOff-none held e = record { asks = λ more. ap (λ l. requests (l ++ more)) (sym e) }

pub CutsOff-first : (bytes held : List ℕ) (exchanges : List Exchange) → CutsOff bytes exchanges held → AreFirstOf exchanges bytes
CutsOff-first bytes held exchanges p = (requests (held ++ []), ap requests (sym (append-nil bytes)) ∙ p.asks [])

pub CutsOff-all : (bytes held : List ℕ) (exchanges : List Exchange) → CutsOff bytes exchanges held → texts_of held ≡ [] → requests bytes ≡ asked_in exchanges
CutsOff-all bytes held exchanges p none =
    ap requests (sym (append-nil bytes)) ∙ p.asks [] ∙ ap (λ l. asked_in exchanges ++ requests l) (append-nil held) ∙ ap (λ l. asked_in exchanges ++ map asks_of l) none ∙ append-nil (asked_in exchanges)

-- a exchange for a text that is cut off
pub exchange_more : (allowed : Allowance) (start mid new : History) (h0 h1 h2 : List ℕ) (exchanges : List Exchange) (exchange : Exchange) (asked : Asked)
    → Exchanges allowed start exchanges mid → CutsOff h0 exchanges h1 → AsksFirst h1 (Some asked) h2 → IsExchange allowed (value_of asked) mid new exchange
    → Exchanges allowed start (exchanges ++ exchange ∷ []) new × CutsOff h0 (exchanges ++ exchange ∷ []) h2
exchange_more allowed start mid new h0 h1 h2 exchanges exchange asked p q first t =
    (Exchanges-more allowed start mid new exchanges exchange (value_of asked) p t, CutsOff-append h0 h1 h2 exchanges (exchange ∷ []) q (CutsOff-cut h1 h2 exchange asked first t.asked_is))

joined : (manner : Manner) (xs ys : List Exchange) → all_shown manner xs ++ exchanges_shown manner ys ≡ all_shown manner (xs ++ ys)
joined manner xs ys = append_assoc (star manner.prompt) (exchanges_shown manner xs) (exchanges_shown manner ys) ∙ ap (λ l. star manner.prompt ++ l) (sym (exchanges_shown-append manner xs ys))

module _ (first second whole : List ℕ → Bool → Type 0) (joins : Joins first second whole) (manner : Manner) (xs : List Exchange) (going : GoOn xs) where
  -- after exchanges that went on, one more
  pub exchange_shows : (x : Exchange) → first (exchanges_shown manner xs) false → second (exchange_shown manner x) false → whole (exchanges_shown manner (xs ++ x ∷ [])) false
  exchange_shows x p q = subst (λ l. whole l false) (sym (exchanges_shown-one manner xs x)) (joins.more (exchanges_shown manner xs) (exchange_shown manner x) false p q)

  -- one that ended the serving
  pub HeldEnds-one : (x : Exchange) (served : Served) → first (exchanges_shown manner xs) false → ExchangeEnds second manner x (Some served) → HeldEnds whole manner (xs ++ x ∷ []) (Some served)
  HeldEnds-one x Exit p e = (xs, x, record { parts = refl; going = going }, e.0, exchange_shows x p e.1)
  HeldEnds-one x EndOfCommands p e = e
  HeldEnds-one x ReadFault p e = e
  HeldEnds-one x ShowFault p e = (xs, x, record { parts = refl; going = going }, e.0, BreaksOff-first first second whole joins (exchanges_shown manner xs) (exchange_shown manner x) p e.1)
  HeldEnds-one x NoMemory p e = absurd e

  -- after all that was shown before, what the exchanges of the last piece show
  pub held_shows : (ys : List Exchange) → first (all_shown manner xs) false → second (exchanges_shown manner ys) false → whole (all_shown manner (xs ++ ys)) false
  held_shows ys p q = subst (λ l. whole l false) (joined manner xs ys) (joins.more (all_shown manner xs) (exchanges_shown manner ys) false p q)

  -- the serving ends as the exchanges of the last piece ended
  pub record EndsSo (exchanges : List Exchange) (served : Served) : Type 0 where
    pub read : is_read_fault served ≡ false
    pub all : is_read_out served ≡ true → ⊥
    pub ended : served ≡ EndOfCommands → ⊥
    pub exit : Exits served exchanges
    pub shown : Shown whole manner exchanges served

  pub ends_from : (ys : List Exchange) (served : Served) → first (all_shown manner xs) false → HeldEnds second manner ys (Some served) → EndsSo (xs ++ ys) served
  ends_from ys Exit p s = record {
    read = refl;
    all = λ e. true≢false (sym e);
    ended = λ e. cc;
    exit = (xs ++ s.0, s.1, record { parts = ap (λ l. xs ++ l) s.2.parts ∙ sym (append_assoc xs s.0 (s.1 ∷ [])); going = GoOn-append xs s.0 going s.2.going }, s.3);
    shown = held_shows ys p s.4;
  }
  ends_from ys EndOfCommands p s = absurd s
  ends_from ys ReadFault p s = absurd s
  ends_from ys ShowFault p s = record {
    read = refl;
    all = λ e. true≢false (sym e);
    ended = λ e. cc;
    exit = GoOn-append xs ys going (subst GoOn (sym s.2.parts) (GoOn-append s.0 (s.1 ∷ []) s.2.going (s.3, tt)));
    shown = record {
      before = all_shown manner (xs ++ s.0);
      last = exchange_shown manner s.1;
      parts = inr (xs ++ s.0, s.1, ap (λ l. xs ++ l) s.2.parts ∙ sym (append_assoc xs s.0 (s.1 ∷ [])), refl, refl);
      breaks = subst (λ l. BreaksOff whole l (exchange_shown manner s.1)) (joined manner xs s.0)
          (BreaksOff-after first second whole joins (all_shown manner xs) (exchanges_shown manner s.0) (exchange_shown manner s.1) p s.4);
    };
  }
  ends_from ys NoMemory p s = record {
    read = refl;
    all = λ e. true≢false (sym e);
    ended = λ e. cc;
    exit = GoOn-append xs ys going s.0;
    shown = held_shows ys p s.1;
  }
