-- A request over a wire: its post, and then its answer.
use Rattle.std.proofs.Common.{◌≡◌, inl, inr, refl, sym, subst, ℕ, List, [], ◌∷◌, ◌++◌, length, take, append-nil}
use Rattle.std.specs.Prelude.{IfSome, Option, Some, None, Result, Ok, Err}
use Rattle.std.specs.Io.KnownBytes.{Appends}
use Rattle.std.proofs.Math.Seq.{take-length}
use Rattle.ifmap_http.specs.ifmap_heads.Answers.{ReadsAnswer, answered}
use Rattle.ifmap_http.specs.Wires.{WireSeen}
use Rattle.ifmap_io.specs.Causes.{Rose}
use Rattle.ifmap_replies.specs.Means.{MeansReply}
use Rattle.ifmap_replies.specs.declared.replies.Reply.{Reply}
use Rattle.ifmap_requests.specs.declared.requests.Request.{Request}
use Rattle.ifmap_client_script.specs.declared.exchanges.Caller.{Caller}
use Rattle.ifmap_client_script.specs.declared.exchanges.ReadReply.{ReadReply}
use Rattle.ifmap_client_script.specs.declared.outcomes.ScriptFailure.{ScriptFailure}
use Rattle.ifmap_client_script.specs.declared.outcomes.ScriptFailure.TheVariants as failure
use Rattle.ifmap_client_script.specs.Exchanges.{AnswersTo, AsksOnWire, Breaks, HasAny, HasNoReply, HasPart, Hears, Posts, Reads, Receives, BodyTellsReply, ReadingStands, WritingStands, exchange_of, request_post}
use Rattle.ifmap_io.specs.Rises.{keeps_appends}

-- a body that came means no reply
no_reply : (left after : Option (List ℕ)) (body : List ℕ)
    → IfSome left (λ l. (rest : List ℕ) × (after ≡ Some rest) × ReadsAnswer l (answered body rest))
    → ((answer : Reply) → MeansReply body answer → ⊥) → IfSome left HasNoReply
no_reply None after body came none = tt
no_reply (Some l) after body came none = inr (inr (body, came.0, came.2, none))

unmeant : (before after : WireSeen) (body : List ℕ) (e : ScriptFailure) → Receives before after (Ok body) → Reads body (Err e)
    → Receives before after (Err e)
unmeant before after body failure.BadReply came reads = no_reply before.left after.left body came.0 reads
unmeant before after body failure.NoMemory came reads = tt
unmeant before after body failure.BadLine came reads = absurd reads
unmeant before after body failure.ReadFault came reads = absurd reads
unmeant before after body failure.WriteFault came reads = absurd reads
unmeant before after body failure.LinkFault came reads = absurd reads
unmeant before after body failure.LinkEnded came reads = absurd reads

pub hears : (before after : WireSeen) (body : List ℕ) (r : Result ReadReply ScriptFailure) → Receives before after (Ok body)
    → BodyTellsReply body r
    → Hears before after r
hears before after body (Ok told) came tells =
    (subst (λ (b : List ℕ). Receives before after (Ok b)) (sym tells.0) came, tells.1)
hears before after body (Err e) came tells = unmeant before after body e came tells

-- whatever is left
any_left : (left : Option (List ℕ)) → IfSome left (λ l. (rest : List ℕ) × AnswersTo [] l rest × HasAny rest)
any_left None = tt
any_left (Some l) = (l, refl, tt)

-- ---- what was left is what it was before the post

module _ (caller : Caller) (request : Request) (before mid after : WireSeen) (unread : ReadingStands before mid)
    (unwritten : WritingStands mid after) where
  abbrev post : List ℕ
  post = request_post caller request

  held_after : (text : List ℕ) → Appends before.held mid.held text → Appends before.held after.held text
  held_after text a = subst (λ (h : Option (List ℕ)). Appends before.held h text) (sym unwritten.held) a

  left_before : (P : List ℕ → Type 0) → IfSome mid.left P → IfSome before.left P
  left_before P h = subst (λ (l : Option (List ℕ)). IfSome l P) unread.left h

  has_left : (Has : List ℕ → Type 0) (left : Option (List ℕ)) → IfSome left Has
      → IfSome left (λ l. (rest : List ℕ) × AnswersTo [] l rest × Has rest)
  has_left Has None h = tt
  has_left Has (Some l) h = (l, refl, h)

  came : (told : ReadReply) (left : Option (List ℕ))
      → IfSome left (λ l. (rest : List ℕ) × (after.left ≡ Some rest) × ReadsAnswer l (answered told.body rest))
      → IfSome left (λ l. (rest : List ℕ) × (after.left ≡ Some rest) × AnswersTo (exchange_of request told ∷ []) l rest)
  came told None h = tt
  came told (Some l) h = (h.0, h.1, (h.0, h.2, refl))

  broke : (Has : List ℕ → Type 0) → Appends before.held mid.held post → IfSome mid.left Has
      → Breaks caller [] post Has before after
  broke Has a h = record { posted = held_after post a; answered = has_left Has before.left (left_before Has h) }

  whole_part : Appends before.held mid.held post
      → (front : List ℕ) × ((n : ℕ) × (front ≡ take n post)) × Breaks caller [] front HasAny before after
  whole_part a =
      (post, (length post, sym (take-length post)), record { posted = held_after post a; answered = any_left before.left })

  pub asks : (r : Result ReadReply ScriptFailure) → Appends before.held mid.held post → Hears mid after r
      → AsksOnWire caller request before after r
  asks (Ok told) a h = (
    record {
      posted = held_after (post ++ []) (subst (λ (t : List ℕ). Appends before.held mid.held t) (sym (append-nil post)) a);
      answered = came told before.left
          (left_before (λ l. (rest : List ℕ) × (after.left ≡ Some rest) × ReadsAnswer l (answered told.body rest)) h.0.0);
      unspent = h.0.1;
    },
    h.1,
  )
  asks (Err failure.LinkFault) a h =
      (whole_part a, inl (subst (λ (n : ℕ). Rose n after.read_faults) unread.read_faults h))
  asks (Err failure.LinkEnded) a h = broke HasPart a h
  asks (Err failure.BadReply) a h = broke HasNoReply a h
  asks (Err failure.NoMemory) a h = whole_part a
  asks (Err failure.BadLine) a h = absurd h
  asks (Err failure.ReadFault) a h = absurd h
  asks (Err failure.WriteFault) a h = absurd h

-- a post that was cut
pub asks_part : (caller : Caller) (request : Request) (before after : WireSeen) (e : ScriptFailure)
    → Posts (request_post caller request) before after (Err e) → AsksOnWire caller request before after (Err e)
asks_part caller request before after failure.LinkFault p =
    ((take p.0.0 (request_post caller request), (p.0.0, refl), record { posted = p.0.1; answered = any_left before.left }), inr p.1)
asks_part caller request before after failure.NoMemory p =
    ([], (0, refl), record { posted = keeps_appends before.held after.held p; answered = any_left before.left })
asks_part caller request before after failure.BadLine p = absurd p
asks_part caller request before after failure.ReadFault p = absurd p
asks_part caller request before after failure.WriteFault p = absurd p
asks_part caller request before after failure.LinkEnded p = absurd p
asks_part caller request before after failure.BadReply p = absurd p
