-- Which bytes are a post, and which status a head has: RFC 9110, sections 8, 9 and 15.5.
use Rattle.std.specs.Prelude.{◌≡◌, ◌≢◌, ℕ, ◌<◌, ◌⊎◌, ◌==◌, ◌||◌, ◌&&◌, nat_lt, nat_le, Bool, not, List, [], ◌∷◌, ◌++◌, length, map, Option, Some, None, codes, if◌then◌else◌}
use Rattle.std.specs.List.{list_all, list_any}
use Rattle.std.specs.Str.{bytes_eq}
use Rattle.httparse.specs.Grammar.{RequestHead}
use Rattle.httparse.specs.Spans.{name_and_value}
use Rattle.ifmap_meta.specs.ClientNames.{is_client_byte, longest_client_name}
use Rattle.ifmap_heads.specs.Fields.{Fields, common_length, has_field, lists_word, values}
use Rattle.ifmap_heads.specs.Heads.{BeginsNoPost, IsCutPostHead, IsPostHead}
use Rattle.ifmap_heads.specs.Limits.{longest_post}

-- what a head says: it is refused with a status, or its post is taken
pub data Judgement : Type 0 where
  refused : (status : ℕ) → Judgement
  taken : (client : List ℕ) (size : ℕ) (close : Bool) → Judgement

-- no length can be told: the body is encoded, or has no length
abbrev pub lacks_length : Fields → Bool
lacks_length fields =
    has_field (codes "transfer-encoding") fields
    || not (list_all (λ v. bytes_eq v (codes "identity")) (values (codes "content-encoding") fields))
    || not (has_field (codes "content-length") fields)

-- the test of `IsClientName`, for what computes: that it is this test is a law
abbrev pub is_client_name : List ℕ → Bool
is_client_name name =
    nat_le 1 (length name) && nat_le (length name) longest_client_name && list_all is_client_byte name

-- the client, where it is named once and by a name
abbrev pub only_client : List (List ℕ) → Option (List ℕ)
only_client [] = None
only_client (name ∷ []) = if is_client_name name then Some name else None
only_client (name ∷ other ∷ names) = None

-- the connection is to be closed after the answer: for HTTP/1.0, and where that is asked
abbrev pub asks_to_close : ℕ → Fields → Bool
asks_to_close minor fields =
    (minor == 0) || list_any (lists_word (codes "close")) (values (codes "connection") fields)

-- who posts: 403 where no client is named
abbrev pub judge_client : ℕ → Fields → ℕ → Option (List ℕ) → Judgement
judge_client minor fields size None = refused 403
judge_client minor fields size (Some client) = taken client size (asks_to_close minor fields)

-- how long the body is: 400 for no length, 413 for one that is too long
abbrev pub judge_length : ℕ → Fields → Option ℕ → Judgement
judge_length minor fields None = refused 400
judge_length minor fields (Some size) =
    if nat_lt longest_post size then refused 413
    else judge_client minor fields size (only_client (values (codes "ifmap-client") fields))

-- the checks on a post's method, minor version and fields, in their order: 405, 411, 400, 413, 403
abbrev pub judge_parts : List ℕ → ℕ → Fields → Judgement
judge_parts method minor fields =
    if not (bytes_eq method (codes "POST")) then refused 405
    else (if lacks_length fields then refused 411
    else judge_length minor fields (common_length (values (codes "content-length") fields)))

-- what a post's head says
abbrev pub judge_post : RequestHead → Judgement
judge_post head = judge_parts head.method head.minor (map name_and_value head.fields)

-- what the bytes that a wire has left begin with
pub data Incoming : Type 0 where
  ended truncated : Incoming
  status : (number : ℕ) → Incoming
  posted : (client body : List ℕ) (close : Bool) (rest : List ℕ) → Incoming

-- left, after which nothing comes, is that: the end of input before a post or inside one, a head with a
-- status, or a post and what is left after its body
abbrev pub ReadsPost : List ℕ → Incoming → Type 0
ReadsPost left ended = left ≡ []
ReadsPost left truncated =
    (left ≢ []) × (IsCutPostHead left ⊎ ((head : RequestHead) × (rest : List ℕ) × (client : List ℕ) × (size : ℕ)
    × (close : Bool) × IsPostHead left head rest × (judge_post head ≡ taken client size close) × (length rest < size)))
ReadsPost left (status number) =
    (BeginsNoPost left × (number ≡ 400)) ⊎ ((head : RequestHead) × (rest : List ℕ)
    × IsPostHead left head rest × (judge_post head ≡ refused number))
ReadsPost left (posted client body close rest) =
    (head : RequestHead) × IsPostHead left head (body ++ rest)
    × (judge_post head ≡ taken client (length body) close)
