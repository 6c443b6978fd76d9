-- The answers and posts that are written: RFC 9112, sections 3, 4 and 6.
use Rattle.std.specs.Prelude.{ℕ, ◌==◌, ◌||◌, Bool, not, List, [], ◌++◌, length, codes, if◌then◌else◌}
use Rattle.std.specs.Char.{is_ascii_graphic}
use Rattle.std.specs.Fmt.{decimal}
use Rattle.std.specs.List.{list_all}

-- a line end
abbrev pub crlf : List ℕ
crlf = codes "\r\n"

-- the statuses that answers have
abbrev pub is_answer_status : ℕ → Bool
is_answer_status status =
    (status == 200) || (status == 400) || (status == 403) || (status == 405) || (status == 411)
    || (status == 413) || (status == 503) || (status == 507)

-- the phrase of each of these statuses
abbrev pub phrase : ℕ → List ℕ
phrase status =
    if status == 200 then codes "OK" else (
    if status == 400 then codes "Bad Request" else (
    if status == 403 then codes "Forbidden" else (
    if status == 405 then codes "Method Not Allowed" else (
    if status == 411 then codes "Length Required" else (
    if status == 413 then codes "Payload Too Large" else (
    if status == 503 then codes "Service Unavailable" else codes "Insufficient Storage"))))))

-- a body comes with the status 200 alone
abbrev pub sent_body : ℕ → List ℕ → List ℕ
sent_body status body = if status == 200 then body else []

-- the field before `content-length`
abbrev pub status_field : ℕ → List ℕ
status_field status =
    if status == 200 then codes "content-type: application/soap+xml\r\n" else (
    if status == 405 then codes "allow: POST\r\n" else [])

-- the field of a connection that will be closed: at each status other than 200 it will
abbrev pub close_field : ℕ → Bool → List ℕ
close_field status close = if not (status == 200) || close then codes "connection: close\r\n" else []

-- the first line of an answer
abbrev pub status_line : ℕ → List ℕ
status_line status = codes "HTTP/1.1 " ++ decimal status ++ codes " " ++ phrase status ++ crlf

-- the field that tells the length of a body
abbrev pub length_field : List ℕ → List ℕ
length_field body = codes "content-length: " ++ decimal (length body) ++ crlf

-- an answer: its head and its body
abbrev pub answer_bytes : ℕ → List ℕ → Bool → List ℕ
answer_bytes status body close =
    status_line status ++ status_field status ++ length_field (sent_body status body)
    ++ close_field status close ++ crlf ++ sent_body status body

-- visible ASCII characters
abbrev pub is_visible : List ℕ → Bool
is_visible text = list_all is_ascii_graphic text

-- a post: its head and its body
abbrev pub post_bytes : List ℕ → List ℕ → List ℕ → List ℕ
post_bytes host client body =
    codes "POST /ifmap HTTP/1.1\r\nhost: " ++ host ++ crlf
    ++ codes "ifmap-client: " ++ client ++ crlf
    ++ codes "content-type: application/soap+xml\r\n" ++ length_field body ++ crlf ++ body
