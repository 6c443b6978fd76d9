-- What was done for a line, from what was asked over a wire and what was written.
-- Plan: (1) a wire that was asked nothing is as it was, and what is equal in all parts is equal; (2) one request: by what
-- came back over its wire, what is known and what is written; (3) the same from either wire: a poll goes over the second,
-- any other request over the first, and without a request nothing goes over either; (4) the lines that are no request;
-- (5) `at_line`: the line that was read is the one that was carried out.
use Rattle.std.proofs.Common.{◌≡◌, ◌⊎◌, inl, inr, refl, ap, ◌∙◌, sym, subst, ℕ, Bool, true, false, List, [], ◌∷◌, take, append-nil}
use Rattle.std.specs.Prelude.{IfSome, IsTrue, is_some, Option, Some, None, OnOk, Result, Ok, Err, if◌then◌else◌}
use Rattle.std.specs.Io.KnownBytes.{Appends, Keeps}
use Rattle.std.proofs.KnownBytes.{Appends-nil, Keeps-refl}
use Rattle.ifmap_client.specs.declared.lines.Line.{Line}
use Rattle.ifmap_client.specs.declared.lines.Line.TheVariants as the_line
use Rattle.ifmap_replies.specs.Means.{MeansReply}
use Rattle.ifmap_requests.specs.declared.requests.Request.{Request}
use Rattle.ifmap_http.specs.Wires.{WireSeen}
use Rattle.ifmap_client_script.specs.declared.exchanges.Caller.{Caller}
use Rattle.ifmap_client_script.specs.declared.exchanges.ReadReply.{ReadReply}
use Rattle.ifmap_client_script.specs.declared.outcomes.ScriptFailure.{ScriptFailure}
use Rattle.ifmap_client_script.specs.declared.outcomes.ScriptFailure.TheVariants as failure
use Rattle.ifmap_client_script.specs.Deeds.{Known, after_reply, is_poll, request_in}
use Rattle.ifmap_client_script.specs.Deeds as deed
use Rattle.ifmap_client_script.specs.Ends.{LinkFailed, Ports}
use Rattle.ifmap_client_script.specs.Exchanges.{AnswersTo, AsksOnWire, HasPostedAndHeard, HasAny, HasNoReply, HasPart, IsFrontOfPost, exchange_of, request_post}
use Rattle.ifmap_client_script.specs.Outlets.{AreUnspent, AsksBy, AsksOver, IsAsked, Prints}
use Rattle.ifmap_client_script.specs.Printing.{body_text, set_text}
use Rattle.ifmap_client_script.specs.Promises.{BreaksExchange, Cutting, HaveExchanged, IsWholePost}
use Rattle.ifmap_client_script.specs.ScriptFailures.{IsNamedOrBadLine, SendsText}
use Rattle.ifmap_client_script.specs.Turns.{CarriesOut, PartlyWritten, GetsNoReply}
use Rattle.ifmap_io.specs.Rises.{keeps_appends}

-- a wire that is as it was, was asked nothing
pub exchanges_none : (caller : Caller) (before after : WireSeen) → before.spent ≡ false → after ≡ before
    → HasPostedAndHeard caller [] before after
exchanges_none caller before after unspent same =
    subst (λ (w : WireSeen). HasPostedAndHeard caller [] before w) (sym same) (record {
      posted = Appends-nil before.held;
      answered = at before.left;
      unspent = unspent;
    })
  where
    at : (left : Option (List ℕ)) → IfSome left (λ l. (rest : List ℕ) × (left ≡ Some rest) × AnswersTo [] l rest)
    at None = tt
    at (Some l) = (l, refl, refl)

-- a name that was not given
pub named_exit : {X : Type 0} (o : Option X) (e : ScriptFailure) → IsNamedOrBadLine o (Err e)
    → (e ≡ failure.NoMemory) ⊎ ((o ≡ None) × (e ≡ failure.BadLine))
named_exit o failure.NoMemory n = inl refl
named_exit o failure.BadLine n = inr (n, refl)
named_exit o failure.ReadFault n = absurd n
named_exit o failure.WriteFault n = absurd n
named_exit o failure.LinkFault n = absurd n
named_exit o failure.LinkEnded n = absurd n
named_exit o failure.BadReply n = absurd n

abbrev IsSame : Result ReadReply ScriptFailure → Result ReadReply ScriptFailure → Type 0
IsSame r s = r ≡ s

failure_is : (a b : ScriptFailure) → IsSame (Err a) (Err b) → a ≡ b
failure_is a b q = cc

-- what is equal in all parts is equal
same_ports : (a b : Ports) → b.held ≡ a.held → b.write_faults ≡ a.write_faults → b.first ≡ a.first → b.second ≡ a.second → b ≡ a
same_ports a b held faults first second =
    ap (λ (h : Option (List ℕ)). record { held = h; write_faults = b.write_faults; first = b.first; second = b.second }) held
    ∙ ap (λ (n : ℕ). record { held = a.held; write_faults = n; first = b.first; second = b.second }) faults
    ∙ ap (λ (w : WireSeen). record { held = a.held; write_faults = a.write_faults; first = w; second = b.second }) first
    ∙ ap (λ (w : WireSeen). record { held = a.held; write_faults = a.write_faults; first = a.first; second = w }) second

-- ---- a request

module _ (caller : Caller) (sent : Request) (before after : Ports) (unspent : AreUnspent before) where
  none_first : after.first ≡ before.first → HasPostedAndHeard caller [] before.first after.first
  none_first same = exchanges_none caller before.first after.first unspent.first same

  none_second : after.second ≡ before.second → HasPostedAndHeard caller [] before.second after.second
  none_second same = exchanges_none caller before.second after.second unspent.second same

  -- each wire was asked what it was to be asked
  asked_first : (told : ReadReply) (b : Bool) → AsksBy b caller sent before after (Ok told)
      → HasPostedAndHeard caller (if b then [] else exchange_of sent told ∷ []) before.first after.first
  asked_first told true w = none_first w.0
  asked_first told false w = w.1.0

  asked_second : (told : ReadReply) (b : Bool) → AsksBy b caller sent before after (Ok told)
      → HasPostedAndHeard caller (if b then exchange_of sent told ∷ [] else []) before.second after.second
  asked_second told true w = w.1.0
  asked_second told false w = none_second w.0

  told_means : (told : ReadReply) (b : Bool) → AsksBy b caller sent before after (Ok told) → MeansReply told.body told.reply
  told_means told true w = w.1.1
  told_means told false w = w.1.1

  exchanged : (told : ReadReply) → AsksBy (is_poll sent) caller sent before after (Ok told)
      → HaveExchanged caller before after (deed.asked (exchange_of sent told) ∷ [])
  exchanged told w = record { first = asked_first told (is_poll sent) w; second = asked_second told (is_poll sent) w }

  -- a part of the post was written, or an answer was cut
  cut_off : (b : Bool) → AsksBy b caller sent before after (Err failure.NoMemory)
      → (front : List ℕ) × IsFrontOfPost (request_post caller sent) front × BreaksExchange caller before after b [] front HasAny
  cut_off true w = (w.1.0, w.1.1, (none_first w.0, w.1.2))
  cut_off false w = (w.1.0, w.1.1, (w.1.2, none_second w.0))

  faulty : (b : Bool) → AsksBy b caller sent before after (Err failure.LinkFault)
      → ((front : List ℕ) × IsFrontOfPost (request_post caller sent) front × BreaksExchange caller before after b [] front HasAny)
      × LinkFailed before after
  faulty true w = ((w.1.0.0, w.1.0.1, (none_first w.0, w.1.0.2)), inr w.1.1)
  faulty false w = ((w.1.0.0, w.1.0.1, (w.1.0.2, none_second w.0)), inl w.1.1)

  ended : (b : Bool) → AsksBy b caller sent before after (Err failure.LinkEnded)
      → BreaksExchange caller before after b [] (request_post caller sent) HasPart
  ended true w = (none_first w.0, w.1)
  ended false w = (w.1, none_second w.0)

  bad : (b : Bool) → AsksBy b caller sent before after (Err failure.BadReply)
      → BreaksExchange caller before after b [] (request_post caller sent) HasNoReply
  bad true w = (none_first w.0, w.1)
  bad false w = (w.1, none_second w.0)

  none_asks : {P : Type 0} (b : Bool) (e : ScriptFailure) → (AsksOnWire caller sent before.first after.first (Err e) → P)
      → (AsksOnWire caller sent before.second after.second (Err e) → P) → AsksBy b caller sent before after (Err e) → P
  none_asks true e one other w = other w.1
  none_asks false e one other w = one w.1

  module _ (known : Known) (request : Request) (named : request_in known.session request ≡ Some sent) where
    module _ (kept : Keeps before.held after.held) where
      posted : (IsCut : Cutting) (Has : List ℕ → Type 0) (front : List ℕ) → IsCut (request_post caller sent) front
          → BreaksExchange caller before after (is_poll sent) [] front Has
          → GetsNoReply caller (the_line.Request request) before after known IsCut Has
      posted IsCut Has front cut b = record {
        request = request;
        sent = sent;
        line_is = refl;
        named = named;
        posted = record { front = front; cut = cut; wrote = keeps_appends before.held after.held kept; broken = b };
      }

      unanswered : (new : Known) (e : ScriptFailure) → AsksBy (is_poll sent) caller sent before after (Err e)
          → CarriesOut caller (the_line.Request request) before after known new (Err e)
      unanswered new failure.LinkFault w =
          let p = faulty (is_poll sent) w in (posted IsFrontOfPost HasAny p.0.0 p.0.1 p.0.2, p.1)
      unanswered new failure.LinkEnded w = posted IsWholePost HasPart (request_post caller sent) refl (ended (is_poll sent) w)
      unanswered new failure.BadReply w = posted IsWholePost HasNoReply (request_post caller sent) refl (bad (is_poll sent) w)
      unanswered new failure.NoMemory w =
          let p = cut_off (is_poll sent) w in inr (inl (posted IsFrontOfPost HasAny p.0 p.1 p.2))
      unanswered new failure.BadLine w = none_asks (is_poll sent) failure.BadLine absurd absurd w
      unanswered new failure.ReadFault w = none_asks (is_poll sent) failure.ReadFault absurd absurd w
      unanswered new failure.WriteFault w = none_asks (is_poll sent) failure.WriteFault absurd absurd w

    module _ (told : ReadReply) (w : AsksBy (is_poll sent) caller sent before after (Ok told)) where
      -- a reply was told, but not written whole
      cut_at : (n : ℕ) → Appends before.held after.held (take n (body_text told.body))
          → PartlyWritten caller (the_line.Request request) before after known
      cut_at n wrote = record {
        deed = deed.asked (exchange_of sent told);
        does = (named, told_means told (is_poll sent) w);
        wrote = record { count = n; wrote = wrote; exchanged = exchanged told w };
      }

      -- a reply was told
      answered : (new : Known) (r : Result (Unit {0}) ScriptFailure)
          → SendsText before.held after.held before.write_faults after.write_faults (body_text told.body) r
          → OnOk r (new ≡ after_reply told.reply known) → CarriesOut caller (the_line.Request request) before after known new r
      answered new (Ok _) sends is = record {
        deed = deed.asked (exchange_of sent told);
        does = (named, told_means told (is_poll sent) w);
        known = is;
        did = record {
          wrote = subst (λ (t : List ℕ). Appends before.held after.held t) (sym (append-nil (body_text told.body))) sends;
          exchanged = exchanged told w;
        };
      }
      answered new (Err failure.WriteFault) sends is = (cut_at sends.0.0 sends.0.1, sends.1)
      answered new (Err failure.NoMemory) sends is = inr (inr (cut_at 0 (keeps_appends before.held after.held sends)))
      answered new (Err failure.BadLine) sends is = absurd sends
      answered new (Err failure.ReadFault) sends is = absurd sends
      answered new (Err failure.LinkFault) sends is = absurd sends
      answered new (Err failure.LinkEnded) sends is = absurd sends
      answered new (Err failure.BadReply) sends is = absurd sends

-- ---- from what was asked over either wire

-- the wire by the request
pub by_second : (caller : Caller) (sent : Request) (before after : Ports) (r : Result ReadReply ScriptFailure) → is_poll sent ≡ true
    → AsksOnWire caller sent before.second after.second r → after.first ≡ before.first → after.held ≡ before.held
    → after.write_faults ≡ before.write_faults → IsAsked caller sent before after r
by_second caller sent before after r poll asks first held faults = record {
  asks = subst (λ (b : Bool). AsksBy b caller sent before after r) (sym poll) (first, asks);
  held = held;
  write_faults = faults;
}

pub by_first : (caller : Caller) (sent : Request) (before after : Ports) (r : Result ReadReply ScriptFailure) → is_poll sent ≡ false
    → AsksOnWire caller sent before.first after.first r → after.second ≡ before.second → after.held ≡ before.held
    → after.write_faults ≡ before.write_faults → IsAsked caller sent before after r
by_first caller sent before after r other asks second held faults = record {
  asks = subst (λ (b : Bool). AsksBy b caller sent before after r) (sym other) (second, asks);
  held = held;
  write_faults = faults;
}

-- no request was sent
pub over_none : (caller : Caller) (request : Request) (known : Known) (before : Ports) (e : ScriptFailure)
    → IsNamedOrBadLine (request_in known.session request) (Err e) → AsksOver caller request known before before (Err e)
over_none caller request known before e n = at (named_exit (request_in known.session request) e n)
  where
    at : (e ≡ failure.NoMemory) ⊎ ((request_in known.session request ≡ None) × (e ≡ failure.BadLine))
        → AsksOver caller request known before before (Err e)
    at (inl q) = inr (refl, inl (ap Err q))
    at (inr q) = inr (refl, inr (q.0, ap Err q.1))

module _ (caller : Caller) (request : Request) (known : Known) (before mid : Ports) (unspent : AreUnspent before) where
  -- a request was answered, and the reply printed
  module _ (after : Ports) (new : Known) (told : ReadReply) (r : Result (Unit {0}) ScriptFailure)
      (prints : Prints (body_text told.body) mid after r)
      (is : OnOk r (new ≡ after_reply told.reply known)) where
    -- as if the reply had been printed while it was asked
    abbrev joined_ports : Ports
    joined_ports = record { held = after.held; write_faults = after.write_faults; first = mid.first; second = mid.second }

    joined_asks : (sent : Request) (b : Bool) → AsksBy b caller sent before mid (Ok told)
        → AsksBy b caller sent before joined_ports (Ok told)
    joined_asks sent true w = w
    joined_asks sent false w = w

    sent_printed : (sent : Request) → request_in known.session request ≡ Some sent → IsAsked caller sent before mid (Ok told)
        → CarriesOut caller (the_line.Request request) before joined_ports known new r
    sent_printed sent named a =
        answered caller sent before joined_ports unspent known request named told (joined_asks sent (is_poll sent) a.asks) new r
        (subst (λ (n : ℕ). SendsText before.held after.held n after.write_faults (body_text told.body) r) a.write_faults
        (subst (λ (h : Option (List ℕ)). SendsText h after.held mid.write_faults after.write_faults (body_text told.body) r) a.held
        prints.sends)) is

    pub request_told : AsksOver caller request known before mid (Ok told)
        → CarriesOut caller (the_line.Request request) before after known new r
    request_told (inl (sent, named, a)) =
        subst (λ (p : Ports). CarriesOut caller (the_line.Request request) before p known new r)
        (sym (same_ports joined_ports after refl refl prints.first prints.second)) (sent_printed sent named a)
    request_told (inr (x, inl e)) = let q : Ok told ≡ Err failure.NoMemory = e in cc
    request_told (inr (x, inr e)) = let q : Ok told ≡ Err failure.BadLine = e.1 in cc

  -- a request was not answered
  pub request_untold : (new : Known) (e : ScriptFailure) → AsksOver caller request known before mid (Err e)
      → CarriesOut caller (the_line.Request request) before mid known new (Err e)
  request_untold new e (inl (sent, named, a)) =
      unanswered caller sent before mid unspent known request named
      (subst (λ (h : Option (List ℕ)). Keeps before.held h) (sym a.held) (Keeps-refl before.held)) new e a.asks
  request_untold new e (inr (x, inl q)) =
      subst (λ (e : ScriptFailure). CarriesOut caller (the_line.Request request) before mid known new (Err e))
      (sym (failure_is e failure.NoMemory q))
      (inl x)
  request_untold new e (inr (x, inr q)) =
      subst (λ (e : ScriptFailure). CarriesOut caller (the_line.Request request) before mid known new (Err e))
      (sym (failure_is e failure.BadLine q.1))
      (λ can. none_begun can, x)
    where
      none_begun : IsTrue (is_some (request_in known.session request)) → ⊥
      none_begun can = let t : false ≡ true = sym (ap is_some q.0) ∙ can in cc

-- ---- the other lines

module _ (caller : Caller) (known : Known) (before : Ports) (unspent : AreUnspent before) where
  pub line_passed : CarriesOut caller the_line.Blank before before known known (Ok tt)
  line_passed = record {
    deed = deed.passed;
    does = tt;
    known = refl;
    did = record {
      wrote = Appends-nil before.held;
      exchanged = record {
        first = exchanges_none caller before.first before.first unspent.first refl;
        second = exchanges_none caller before.second before.second unspent.second refl;
      };
    };
  }

  module _ (after : Ports) (name : List ℕ) (first : after.first ≡ before.first) (second : after.second ≡ before.second) where
    idle : HaveExchanged caller before after (deed.printed name ∷ [])
    idle = record {
      first = exchanges_none caller before.first after.first unspent.first first;
      second = exchanges_none caller before.second after.second unspent.second second;
    }

    set_cut : (n : ℕ) → Appends before.held after.held (take n (set_text (known.sets name)))
        → PartlyWritten caller (the_line.Set name) before after known
    set_cut n wrote = record {
      deed = deed.printed name;
      does = refl;
      wrote = record { count = n; wrote = wrote; exchanged = idle };
    }

    set_sent : (r : Result (Unit {0}) ScriptFailure)
        → SendsText before.held after.held before.write_faults after.write_faults (set_text (known.sets name)) r
        → CarriesOut caller (the_line.Set name) before after known known r
    set_sent (Ok _) sends = record {
      deed = deed.printed name;
      does = refl;
      known = refl;
      did = record {
        wrote = subst (λ (t : List ℕ). Appends before.held after.held t) (sym (append-nil (set_text (known.sets name)))) sends;
        exchanged = idle;
      };
    }
    set_sent (Err failure.WriteFault) sends = (set_cut sends.0.0 sends.0.1, sends.1)
    set_sent (Err failure.NoMemory) sends = inr (inr (set_cut 0 (keeps_appends before.held after.held sends)))
    set_sent (Err failure.BadLine) sends = absurd sends
    set_sent (Err failure.ReadFault) sends = absurd sends
    set_sent (Err failure.LinkFault) sends = absurd sends
    set_sent (Err failure.LinkEnded) sends = absurd sends
    set_sent (Err failure.BadReply) sends = absurd sends

  pub set_printed : (after : Ports) (name : List ℕ) (r : Result (Unit {0}) ScriptFailure)
      → Prints (set_text (known.sets name)) before after r
      → CarriesOut caller (the_line.Set name) before after known known r
  set_printed after name r prints = set_sent after name prints.first prints.second r prints.sends

-- the same of the line that it is
pub at_line : (caller : Caller) (line form : Line) (before after : Ports) (old new : Known) (r : Result (Unit {0}) ScriptFailure)
    → line ≡ form
    → CarriesOut caller form before after old new r → CarriesOut caller line before after old new r
at_line caller line form before after old new r is c =
    subst (λ (l : Line). CarriesOut caller l before after old new r) (sym is) c
